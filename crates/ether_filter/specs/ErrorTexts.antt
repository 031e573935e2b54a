-- The texts of the errors.
use Rattle.std.specs.Prelude.{ℕ, List, ◌++◌, codes}
use Rattle.std.specs.Fmt.{decimal}
use Rattle.ether_filter.specs.declared.filter_error.FilterError.{FilterError}
use Rattle.ether_filter.specs.declared.filter_error.FilterErrorKind.{FilterErrorKind}
use Rattle.ether_filter.specs.declared.filter_error.FilterErrorKind.TheVariants as kinds

abbrev pub kind_text : FilterErrorKind → List ℕ
kind_text kinds.ExpectedOperand = codes "expected a primitive, `not` or `(`."
kind_text kinds.ExpectedOperator = codes "expected `and`, `or`, `)` or the end."
kind_text kinds.ExpectedVlanIdOrOperator = codes "expected a number up to 4095, `and`, `or`, `)` or the end."
kind_text kinds.ExpectedVlan = codes "expected `vlan`."
kind_text kinds.ExpectedEtherWord = codes "expected `proto`, `src`, `dst`, `host`, `broadcast` or `multicast`."
kind_text kinds.ExpectedAddress = codes "expected an address, as 02:00:5e:10:00:01."
kind_text (kinds.ExpectedNumber most) = codes "expected a number up to " ++ (decimal most ++ codes ".")
kind_text kinds.ExpectedRelation = codes "expected `==`, `!=`, `<`, `<=`, `>`, `>=` or `in`."
kind_text kinds.ExpectedRelationOrOperator =
    codes "expected `==`, `!=`, `<`, `<=`, `>`, `>=`, `in`, `&`, `and`, `or`, `)` or the end."
kind_text (kinds.ExpectedBytes len) = codes "expected a value of " ++ (decimal len ++ codes " bytes.")
kind_text kinds.ExpectedAnyBytes = codes "expected bytes, as 02:00:5e:10:00:01 or 10.0.0.1."
kind_text kinds.ExpectedTime = codes "expected a time, as 2026-11-01T00:00:00Z."
kind_text kinds.ExpectedHeader = codes "expected `eth`, `sll`, `vlan`, `macsec` or `arp`."
kind_text kinds.ExpectedSet = codes "expected `{`."
kind_text kinds.ExpectedSetEnd = codes "expected `,` or `}`."
kind_text kinds.MixedOperators = codes "`and` and `or` can be mixed only with parentheses."
kind_text kinds.Unopened = codes "there is no `(` for this `)`."
kind_text kinds.Unclosed = codes "a `(` is not closed."
kind_text kinds.TooLong = codes "an expression has at most 192 words."

abbrev pub filter_error_text : FilterError → List ℕ
filter_error_text error = codes "At byte " ++ (decimal error.offset ++ (codes ": " ++ kind_text error.kind))
