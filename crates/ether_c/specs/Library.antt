-- What a program asks of the library: its version, the sizes of its structs, starts for link types.
use Rattle.std.specs.Prelude.{ℕ, ◌+◌, ◌*◌, nat_eq, if◌then◌else◌}

-- a version as one number, by its three numbers
abbrev pub version_number : (major minor patch : ℕ) → ℕ
version_number major minor patch = major * 65536 + minor * 256 + patch

-- the sizes of the structs of c/etherpeel.h, in the order of enum etherpeel_struct; 0 if no struct has the number
abbrev pub struct_size : ℕ → ℕ
struct_size number =
    if nat_eq number 1 then 56
    else (if nat_eq number 2 then 88
    else (if nat_eq number 3 then 72
    else (if nat_eq number 4 then 16
    else (if nat_eq number 5 then 16
    else (if nat_eq number 6 then 6
    else (if nat_eq number 7 then 24
    else (if nat_eq number 8 then 40
    else (if nat_eq number 9 then 144
    else (if nat_eq number 10 then 824
    else (if nat_eq number 11 then 40
    else (if nat_eq number 12 then 16
    else (if nat_eq number 13 then 16
    else (if nat_eq number 14 then 32
    else (if nat_eq number 15 then 32
    else (if nat_eq number 16 then 32
    else (if nat_eq number 17 then 16
    else (if nat_eq number 18 then 4616
    else (if nat_eq number 19 then 6
    else (if nat_eq number 20 then 72
    else (if nat_eq number 21 then 16
    else (if nat_eq number 22 then 64
    else (if nat_eq number 23 then 32
    else (if nat_eq number 24 then 72
    else (if nat_eq number 25 then 128
    else (if nat_eq number 26 then 40
    else (if nat_eq number 27 then 64
    else (if nat_eq number 28 then 24
    else (if nat_eq number 29 then 24
    else (if nat_eq number 30 then 24
    else (if nat_eq number 31 then 64
    else (if nat_eq number 32 then 24 else 0)))))))))))))))))))))))))))))))

-- The starts for the link types LINKTYPE_ETHERNET and LINKTYPE_LINUX_SLL (www.tcpdump.org/linktypes.html), by their
-- numbers; 0 for any other. libpcap's DLT_EN10MB and DLT_LINUX_SLL have the same numbers.
abbrev pub link_type_start : ℕ → ℕ
link_type_start number = if nat_eq number 1 then 1 else (if nat_eq number 113 then 3 else 0)
