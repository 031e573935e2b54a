-- The frame that an object means.
use Rattle.std.specs.Prelude.{ℕ, ◌-◌, List, [], ◌∷◌, ◌++◌, length, codes, Bool, true, false, Option, Some, None, unwrap_or, Result, Ok, Err, nat_eq, nat_lt, if◌then◌else◌}
use Rattle.std.specs.Option.{option_and_then}
use Rattle.serde_json.specs.Data.{Data, Items, Members}
use Rattle.serde_json.specs.Find.{as_array, as_object, as_str}
use Rattle.ether_pcap.specs.Writing.{zeros}
use Rattle.ether_fields.specs.declared.section.Section.{Section}
use Rattle.ether_fields.specs.declared.section.Section.TheVariants.{Frame, Eth, Sll, Sll2, Rest, Fault}
use Rattle.ether_make.specs.declared.refusal.Reason.{Reason}
use Rattle.ether_make.specs.declared.time_text.Time.{Time}
use Rattle.ether_make.specs.Times.{time}
use Rattle.ether_make.specs.declared.refusal.Reason.TheVariants.{Missing, NotANumber, NotAnArray, NotAnObject, NotAText, NotBytes, NotALink, TooBig, OtherHeader, Unknown}
use Rattle.ether_make.specs.Headers.{headers_bytes, names, next_in, told, unless_unknown}
use Rattle.ether_make.specs.Objects.{given, listed, number_of, unknown_member}
use Rattle.ether_make.specs.Refusals.{Meaning, refused, joined}
use Rattle.ether_make.specs.Texts.{hex_bytes}

-- a frame: the link type of its capture, its time, and its bytes
pub record FrameValue : Type 0 where
  pub link : ℕ
  pub time : Time
  pub packet : List ℕ

-- ---- its headers

-- the link type of frames that begin with a header: LINKTYPE_ETHERNET, LINKTYPE_LINUX_SLL and LINKTYPE_LINUX_SLL2 of
-- the tcpdump group
abbrev pub link_of : Section → Option ℕ
link_of Eth = Some 1
link_of Sll = Some 113
link_of Sll2 = Some 276
link_of section = None

abbrev pub unless_not_first : Option ℕ → Meaning (List ℕ) → Meaning (List ℕ)
unless_not_first None meaning = Err (refused (Some 0) (codes "header") NotALink)
unless_not_first (Some link) meaning = meaning

-- The first header has a link type. An object that names no header is refused with its header.
abbrev pub unless_no_link : (first : Option Section) → Meaning (List ℕ) → Meaning (List ℕ)
unless_no_link None meaning = meaning
unless_no_link (Some section) meaning = unless_not_first (link_of section) meaning

abbrev pub front_of : List Data → Meaning (List ℕ)
front_of ds = unless_no_link (next_in ds) (headers_bytes 0 ds)

abbrev pub front_in : Option Items → Meaning (List ℕ)
front_in None = Err (refused None (codes "headers") NotAnArray)
front_in (Some ds) = front_of (listed ds)

abbrev pub front : Option Data → Meaning (List ℕ)
front None = Err (refused None (codes "headers") Missing)
front (Some d) = front_in (as_array d)

-- ---- the bytes after them

abbrev pub spelled_rest : Option (List ℕ) → Meaning (List ℕ)
spelled_rest None = Err (refused None (codes "bytes") NotBytes)
spelled_rest (Some bytes) = Ok bytes

abbrev pub text_rest : Option (List ℕ) → Meaning (List ℕ)
text_rest None = Err (refused None (codes "bytes") NotAText)
text_rest (Some text) = spelled_rest (hex_bytes text)

abbrev pub rest_bytes : Option Data → Meaning (List ℕ)
rest_bytes None = Ok []
rest_bytes (Some d) = text_rest (as_str d)

-- the names of the members of a rest: those that describe it, and its bytes
abbrev pub rest_names : List (List ℕ)
rest_names = names Rest ++ codes "bytes" ∷ []

abbrev pub rest_in : Data → Option Members → Meaning (List ℕ)
rest_in d None = Err (refused None (codes "rest") NotAnObject)
rest_in d (Some ms) = unless_unknown None (unknown_member rest_names d) (rest_bytes (given (codes "bytes") d))

-- the headers of a packet with a fault are not all there, so its bytes may not be missing
abbrev pub fault_bytes : Option Data → Meaning (List ℕ)
fault_bytes None = Err (refused None (codes "bytes") Missing)
fault_bytes (Some d) = text_rest (as_str d)

abbrev pub fault_names : List (List ℕ)
fault_names = names Fault ++ codes "bytes" ∷ []

abbrev pub fault_in : Data → Option Members → Meaning (List ℕ)
fault_in d None = Err (refused None (codes "fault") NotAnObject)
fault_in d (Some ms) = unless_unknown None (unknown_member fault_names d) (fault_bytes (given (codes "bytes") d))

-- the bytes of a rest or of a fault: a packet does not end in both
abbrev pub after_headers : (rest fault : Option Data) → Meaning (List ℕ)
after_headers None None = Ok []
after_headers (Some d) None = rest_in d (as_object d)
after_headers None (Some d) = fault_in d (as_object d)
after_headers (Some d) (Some e) = Err (refused None (codes "fault") Unknown)

-- ---- its link type

abbrev pub first_in : Option Items → Option Section
first_in None = None
first_in (Some ds) = next_in (listed ds)

-- the first header
abbrev pub first_header : (headers : Option Data) → Option Section
first_header headers = first_in (option_and_then as_array headers)

-- that of the first header, or Ethernet
abbrev pub usual_link : (first : Option Section) → ℕ
usual_link first = unwrap_or (option_and_then link_of first) 1

-- one that is given: that of the first header, or any if there is no header
abbrev pub agreed_link : (first : Option Section) → ℕ → Result ℕ Reason
agreed_link None n = Ok n
agreed_link (Some section) n = if nat_eq n (usual_link (Some section)) then Ok n else Err OtherHeader

-- a link type has 16 bits (draft-ietf-opsawg-pcap, section 4)
abbrev pub numbered_link : (first : Option Section) → Option ℕ → Result ℕ Reason
numbered_link first None = Err NotANumber
numbered_link first (Some n) = if nat_lt n 65536 then agreed_link first n else Err TooBig

abbrev pub frame_link : (first : Option Section) → Option Data → Result ℕ Reason
frame_link first None = Ok (usual_link first)
frame_link first (Some d) = numbered_link first (number_of d)

-- ---- the frame

abbrev pub frame_names : List (List ℕ)
frame_names = names Frame ++ codes "headers" ∷ codes "rest" ∷ codes "fault" ∷ []

-- its headers, and the bytes after them
abbrev pub frame_bytes : Data → Meaning (List ℕ)
frame_bytes d =
    joined (front (given (codes "headers") d)) (after_headers (given (codes "rest") d) (given (codes "fault") d))

abbrev pub framed : Meaning (List ℕ) → Meaning ℕ → Meaning Time → Meaning FrameValue
framed (Err r) link t = Err r
framed (Ok bytes) (Err r) t = Err r
framed (Ok bytes) (Ok link) (Err r) = Err r
framed (Ok bytes) (Ok link) (Ok t) = Ok (record { link = link; time = t; packet = bytes })

abbrev pub frame_meaning : Data → Meaning FrameValue
frame_meaning d =
    unless_unknown None (unknown_member frame_names d)
    (framed (frame_bytes d)
    (told None (codes "link") (frame_link (first_header (given (codes "headers") d)) (given (codes "link") d)))
    (told None (codes "time") (time (given (codes "time") d))))

-- ---- padding

-- A frame of Ethernet has 64 bytes at least, with the four of its check sequence (IEEE 802.3, 3.2.8 and 4.4.2). Zeros
-- are padded.
abbrev pub padded : (pad : Bool) → FrameValue → FrameValue
padded false frame = frame
padded true frame =
    if nat_eq frame.link 1 then record frame { packet = frame.packet ++ zeros (60 - length frame.packet) } else frame
