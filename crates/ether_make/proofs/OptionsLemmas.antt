-- What `clap` finds among the arguments.
use Rattle.std.proofs.Common.{◌≡◌, List, [], true, Result, Ok, Err, IfOk, IfErr, IsErrAnd, inl, inr, refl, sym, ap, subst, ◌∙◌}
use Rattle.clap.specs.Words.{App, FailsBy, HasKind, HasMatchesOf, IsAmong, Row, Text, fault_of, found_of, is_simple, is_simple_and_free, kind_of, matches_of, rows_of}
use Rattle.clap.specs.declared.error.Error.{Error}
use Rattle.clap.specs.declared.error.kind.ErrorKind.{ErrorKind}
use Rattle.clap.specs.declared.parser.matches.ArgMatches.{ArgMatches}
use Rattle.ether_make.specs.OptionTable.{all_options}
use Rattle.ether_make.specs.Options.{Asks, IsRefusedUsage, JobValue, KindNames, Make, MeansNothing, NamesRequest, RefusesKind, RefusesRows, RefusesWords, make_app, clap_refuses, help, means_nothing, no_memory, options, request_view, version}
use Rattle.ether_make.specs.declared.request.Usage.{Usage}
use Rattle.ether_make.specs.declared.request.Job.{Job}
use Rattle.ether_make.specs.declared.request.Request.{Request}
use Rattle.ether_make.specs.declared.request.RequestError.{RequestError}
use Rattle.ether_make.specs.declared.request.RequestError.TheVariants as reasons

-- the command is simple: `clap` says exactly what it finds, or how it fails
free_app : is_simple_and_free make_app ≡ true
unfolding all_options
free_app = refl

simple_app : is_simple make_app ≡ true
unfolding all_options
simple_app = refl

-- what it finds
pub finds : (a : App) (words : List Text) (m : ArgMatches) → a ≡ make_app
    → (is_simple_and_free a ≡ true → FailsBy (fault_of a words) (Ok m)) → HasMatchesOf a words m
    → (fault_of make_app words ≡ []) × (rows_of (found_of m) ≡ matches_of make_app words)
finds a words m is fails has = (
  ap (λ it. fault_of it words) (sym is) ∙ fails (ap is_simple_and_free is ∙ free_app),
  (has (ap is_simple is ∙ simple_app)).0 ∙ ap (λ it. matches_of it words) is,
)

-- .. or how it fails
pub refuses : (a : App) (words : List Text) (e : Error) → a ≡ make_app
    → (is_simple_and_free a ≡ true → FailsBy {T = ArgMatches} (fault_of a words) (Err e))
    → HasKind (fault_of make_app words) e
refuses a words e is fails =
    subst (λ it. HasKind (fault_of it words) e) is (fails (ap is_simple_and_free is ∙ free_app))

-- ---- it takes them

module _ (words : List Text) (rows : List Row) (taken : fault_of make_app words ≡ [])
    (is : rows ≡ matches_of make_app words) where
  rows_refused : (e : RequestError) → RefusesRows rows e → RefusesWords words e
  rows_refused (reasons.Usage usage) means = means_nothing usage taken (subst (λ it. MeansNothing it usage) is means)
  rows_refused reasons.Memory refused = no_memory

  -- the values of options ask for nothing
  pub nothing_asked : (e : RequestError) (r : Result Request RequestError) → RefusesRows rows e
      → IsErrAnd r (λ it. it ≡ e) → IfErr r (RefusesWords words)
  nothing_asked e (Ok request) refused same = tt
  nothing_asked e (Err other) means same = subst (RefusesWords words) (sym same) (rows_refused e means)

  -- .. or for frames
  pub job_named : (job : JobValue) → Asks rows job → NamesRequest words (Make job)
  job_named job asks = options words job taken (subst (λ it. Asks it job) is asks)

-- ---- it fails

module _ (words : List Text) (kind : ErrorKind) (e : Error) (fails : HasKind (fault_of make_app words) e)
    (is : kind ≡ kind_of e) where
  pub kind_named : (r : Result Request RequestError) → IfOk r (λ it. KindNames kind (request_view it))
      → IfOk r (λ it. NamesRequest words (request_view it))
  kind_named (Err other) names = tt
  kind_named (Ok request) names = named fails names
    where
      named : HasKind (fault_of make_app words) e → KindNames kind (request_view request)
          → NamesRequest words (request_view request)
      named (inl memory) (inl (kind_is, it)) = let bad = sym kind_is ∙ is ∙ memory in absurd cc
      named (inl memory) (inr (kind_is, it)) = let bad = sym kind_is ∙ is ∙ memory in absurd cc
      named (inr among) (inl (kind_is, it)) =
          subst (NamesRequest words) (sym it)
          (help words (subst (λ k. IsAmong k (fault_of make_app words)) (sym is ∙ kind_is) among))
      named (inr among) (inr (kind_is, it)) =
          subst (NamesRequest words) (sym it)
          (version words (subst (λ k. IsAmong k (fault_of make_app words)) (sym is ∙ kind_is) among))

  pub kind_refused : (r : Result Request RequestError) → IfErr r (RefusesKind words kind)
      → IfErr r (RefusesWords words)
  kind_refused (Ok request) means = tt
  kind_refused (Err reasons.Memory) means = no_memory
  kind_refused (Err (reasons.Usage usage)) ((no_help, no_version, has_memory), means) =
      clap_refuses usage (by_kind fails) means
    where
      by_kind : HasKind (fault_of make_app words) e → IsRefusedUsage words
      by_kind (inl ends) = absurd (has_memory (is ∙ ends))
      by_kind (inr among) = record {
        kind = kind;
        among = subst (λ k. IsAmong k (fault_of make_app words)) (sym is) among;
        no_help = no_help;
        no_version = no_version;
      }

-- ---- no memory, or a value that means nothing

pub memory_refused : (words : List Text) (r : Result Request RequestError) → IsErrAnd r (λ it. it ≡ reasons.Memory)
    → IfErr r (RefusesWords words)
memory_refused words (Ok request) same = tt
memory_refused words (Err e) same = subst (RefusesWords words) (sym same) no_memory

pub value_refused : (rows : List Row) (usage : Usage) (r : Result Job RequestError) → MeansNothing rows usage
    → IsErrAnd r (λ it. it ≡ reasons.Usage usage) → IfErr r (RefusesRows rows)
value_refused rows usage (Ok job) means same = tt
value_refused rows usage (Err e) means same = subst (RefusesRows rows) (sym same) means
