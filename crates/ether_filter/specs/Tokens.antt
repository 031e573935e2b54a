-- What the words of an expression mean.
use Rattle.std.specs.Prelude.{ℕ, List, [], ◌∷◌, Option, Some, None, unwrap_or, option_map, nat_eq, codes, if◌then◌else◌}
use Rattle.std.specs.Cmp.Lexicographic.{pointwise}
use Rattle.ether_filter.specs.Numerals.{wide_number_in, address_in}
use Rattle.ether_filter.specs.ByteTexts.{literal_in}
use Rattle.ether_filter.specs.Subjects.{subject_in}
use Rattle.ether_filter.specs.TimeTexts.{time_in}
use Rattle.ether_filter.specs.declared.field_test.Relation.TheVariants.{Equal, NotEqual, Less, AtMost, Greater, AtLeast}
use Rattle.ether_filter.specs.declared.node.Operator.TheVariants.{And, Or}
use Rattle.ether_filter.specs.declared.token.Token.{Token}
use Rattle.ether_filter.specs.declared.token.Token.TheVariants as tokens

-- the words with a meaning of their own
abbrev pub keywords : List (List ℕ × Token)
keywords =
    (codes "(", tokens.Open) ∷ (codes ")", tokens.Close) ∷ (codes "not", tokens.Not) ∷ (codes "!", tokens.Not) ∷
    (codes "and", tokens.Join And) ∷ (codes "&&", tokens.Join And) ∷ (codes "or", tokens.Join Or)
    ∷ (codes "||", tokens.Join Or) ∷
    (codes "vlan", tokens.Vlan) ∷ (codes "outer", tokens.Outer) ∷ (codes "inner", tokens.Inner)
    ∷ (codes "macsec", tokens.Macsec) ∷ (codes "eth", tokens.Eth) ∷ (codes "sll", tokens.Sll) ∷
    (codes "arp", tokens.Arp) ∷ (codes "ip", tokens.Ip) ∷ (codes "ip6", tokens.Ip6) ∷
    (codes "ether", tokens.Ether) ∷ (codes "proto", tokens.Proto) ∷ (codes "src", tokens.Src)
    ∷ (codes "dst", tokens.Dst) ∷ (codes "host", tokens.Host) ∷
    (codes "broadcast", tokens.Broadcast) ∷ (codes "multicast", tokens.Multicast) ∷
    (codes "refused", tokens.Refused) ∷ (codes "fault", tokens.Refused) ∷ (codes "cut", tokens.Cut) ∷ (
      codes "less",
      tokens.Less,
    )
    ∷ (codes "greater", tokens.Greater) ∷
    (codes "==", tokens.Relation Equal) ∷ (codes "!=", tokens.Relation NotEqual) ∷ (codes "<", tokens.Relation Less)
    ∷ (codes "<=", tokens.Relation AtMost) ∷ (codes ">", tokens.Relation Greater)
    ∷ (codes ">=", tokens.Relation AtLeast)
    ∷ (codes "&", tokens.Mask) ∷ (codes "in", tokens.In) ∷ (codes "{", tokens.OpenSet)
    ∷ (codes "}", tokens.CloseSet) ∷ (codes ",", tokens.Comma) ∷ []

-- what a word means, if it is among these
abbrev pub meaning_among : List (List ℕ × Token) → List ℕ → Option Token
meaning_among [] word = None
meaning_among (entry ∷ entries) word =
    if pointwise nat_eq entry.0 word then Some entry.1 else meaning_among entries word

abbrev pub number_token : Option (Option ℕ) → Token
number_token None = tokens.Unknown
number_token (Some number) = tokens.Number number

abbrev pub literal : List ℕ → Token
literal word =
    unwrap_or (option_map tokens.Address (address_in word))
    (unwrap_or (option_map tokens.Bytes (literal_in word))
    (unwrap_or (option_map tokens.Field (subject_in word))
    (unwrap_or (option_map tokens.Time (time_in word)) (number_token (wide_number_in word)))))

abbrev pub token_of : List ℕ → Token
token_of word = unwrap_or (meaning_among keywords word) (literal word)
