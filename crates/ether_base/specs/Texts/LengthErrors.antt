-- The texts of errors of lengths, of space for writing, and of values that are too big.
use Rattle.std.specs.Prelude.{ℕ, List, ◌++◌, Option, Some, codes, nat_lt, if◌then◌else◌}
use Rattle.std.specs.Fmt.{decimal, ◌++?◌}
use Rattle.ether_base.specs.declared.err.layer.Layer.{Layer}
use Rattle.ether_base.specs.declared.err.len_error.LenError.{LenError}
use Rattle.ether_base.specs.declared.err.slice_write_space_error.SliceWriteSpaceError.{SliceWriteSpaceError}
use Rattle.ether_base.specs.declared.err.value_type.ValueType.{ValueType}
use Rattle.ether_base.specs.Enumerations.Layer.{layer_title, layer_name}
use Rattle.ether_base.specs.Enumerations.LenSource.{len_source_name}
use Rattle.ether_base.specs.Enumerations.ValueType.{value_type_name}

-- the end of a length error's text: where the layer starts, if that is not at the beginning
abbrev pub layer_start_text : Layer → ℕ → List ℕ
layer_start_text layer offset =
    if nat_lt 0 offset
    then codes " ('"
    ++ (layer_name layer ++ (codes "' starts at overall parsed byte " ++ (decimal offset ++ codes ").")))
    else codes "."

-- the text of a length error: fewer bytes are there than required, or else too many
abbrev pub len_error_text : LenError → List ℕ
len_error_text error =
    if nat_lt error.len error.required_len
    then
    layer_title error.layer
    ++ (codes ": Not enough data to decode '"
    ++ (layer_name error.layer
    ++ (codes "'. "
    ++ (decimal error.required_len
    ++ (codes " byte(s) would be required, but only "
    ++ (decimal error.len
    ++ (codes " byte(s) are available based on the "
    ++ (len_source_name error.len_source
    ++ layer_start_text error.layer error.layer_start_offset))))))))
    else
    layer_title error.layer
    ++ (codes ": Length of "
    ++ (decimal error.len
    ++ (codes " byte(s) is too big for an '"
    ++ (layer_name error.layer
    ++ (codes "' (maximum is "
    ++ (decimal error.required_len
    ++ (codes " bytes). The "
    ++ (len_source_name error.len_source
    ++ (codes " was used to determine the length"
    ++ layer_start_text error.layer error.layer_start_offset)))))))))

-- the end of the text of an error of writing: where the layer was to start, if that is not at the beginning
abbrev pub write_start_text : Layer → ℕ → List ℕ
write_start_text layer offset =
    if nat_lt 0 offset
    then codes " (start offset of "
    ++ (layer_name layer ++ (codes " write was " ++ (decimal offset ++ codes " byte(s)).")))
    else codes "."

abbrev pub slice_write_space_error_text : SliceWriteSpaceError → List ℕ
slice_write_space_error_text error =
    codes "Not enough space to write "
    ++ (layer_name error.layer
    ++ (codes " to slice. Needed "
    ++ (decimal error.required_len
    ++ (codes " byte(s), but only "
    ++ (decimal error.len
    ++ (codes " byte(s) were available"
    ++ write_start_text error.layer error.layer_start_offset))))))

-- the text of a refused value, from the texts of the value and of the greatest one that is allowed
abbrev pub value_too_big_error_text : Option (List ℕ) → Option (List ℕ) → ValueType → Option (List ℕ)
value_too_big_error_text actual greatest value_type =
    Some (codes "Error '")
    ++? actual
    ++? Some (codes "' is too big to be a '")
    ++? Some (value_type_name value_type)
    ++? Some (codes "' (maximum allowed value is '")
    ++? greatest
    ++? Some (codes "')")
