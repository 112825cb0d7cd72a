-- What follows of clap's answer for the meaning of the words.
use Rattle.std.proofs.Common.{◌≡◌, inl, inr, true, List, [], ◌∷◌, IsSomeAnd, Option, Some, None, Result, Ok, Err, refl, sym, ap, ap₂, ◌∙◌, subst, if◌then◌else◌, option_and_then}
use Rattle.std.specs.Option.{option_map_or}
use Rattle.clap.specs.Words.{HasKind, IsAmong, Kinds, Row, Text, fault_of, is_simple_and_free, is_simple, kind_of, subcommand_of}
use Rattle.clap.specs.declared.Error.{Error}
use Rattle.clap.specs.declared.error.ErrorKind.{ErrorKind}
use Rattle.clap.specs.declared.error.ErrorKind.TheVariants as kind
use Rattle.command_words.specs.declared.command_line.CommandLine.{CommandLine}
use Rattle.command_words.specs.declared.command_line.NoCommand.{NoCommand}
use Rattle.command_words.specs.declared.command_line.NoCommand.TheVariants as no
use Rattle.command_words.specs.Syntax.{dts}
use Rattle.command_words.specs.Words.{asks, command_in, is_request_kind, meaning_by, meaning_of, means, nothing}
use Rattle.command_words.specs.Reading.{IsMisspelled, IsNoKind, IsReading}
use Rattle.command_words.specs.Finding.{FindsCommand, Lacks, refusal_of}
use Rattle.command_words.proofs.FaultKinds.{AreAlike, faults_alike}

pub dts_is_simple : is_simple dts ≡ true
dts_is_simple = refl

pub dts_is_free : is_simple_and_free dts ≡ true
dts_is_free = refl

-- words that clap takes
pub accepted : (words : List Text) (found : Option (Text × List Row)) (line : Option CommandLine) → fault_of dts words ≡ [] → found ≡ subcommand_of dts words
    → line ≡ option_and_then (λ f. command_in f.0 f.1) found → meaning_of words ≡ option_map_or means line nothing
unfolding meaning_of
accepted words found line none is e = ap₂ meaning_by none (sym is) ∙ ap (λ l. option_map_or means l nothing) (sym e)

-- what the reader of the command that clap found ends with
pub read_so : (words : List Text) (found : Option (Text × List Row)) (result : Result CommandLine NoCommand) → fault_of dts words ≡ [] → found ≡ subcommand_of dts words
    → FindsCommand found result → IsReading words result
read_so words None result none is finds = subst (IsReading words) (sym finds) (accepted words None None none is refl)
read_so words (Some found) (Ok line) none is finds = accepted words (Some found) (Some line) none is (sym finds)
read_so words (Some found) (Err why) none is (inl memory) = subst (λ w. IsReading words (Err w)) (sym memory) tt
read_so words (Some found) (Err why) none is (inr (finds, lacks)) = go why lacks
  where
    means_nothing : meaning_of words ≡ nothing
    means_nothing = accepted words (Some found) None none is (sym finds)

    go : (why : NoCommand) → Lacks found.1 why → IsReading words (Err why)
    go (no.Number name) lacks = (means_nothing, subst (λ f. IsSomeAnd f (λ g. IsMisspelled name g.1)) is lacks)
    go no.Kind lacks = (means_nothing, subst (λ f. IsSomeAnd f (λ g. IsNoKind g.1)) is lacks)
    go no.Missing lacks = means_nothing
    go (no.Shown text) lacks = absurd lacks
    go (no.Refused error) lacks = absurd lacks
    go no.NoMemory lacks = absurd lacks

-- an error of each kind
by_kind : (words : List Text) (k : ErrorKind) (error : Error) → meaning_of words ≡ (if is_request_kind k then asks else nothing) → IsReading words (Err (refusal_of k error))
by_kind words kind.InvalidValue error is = is
by_kind words kind.UnknownArgument error is = is
by_kind words kind.InvalidSubcommand error is = is
by_kind words kind.NoEquals error is = is
by_kind words kind.ValueValidation error is = is
by_kind words kind.TooManyValues error is = is
by_kind words kind.TooFewValues error is = is
by_kind words kind.WrongNumberOfValues error is = is
by_kind words kind.ArgumentConflict error is = is
by_kind words kind.MissingRequiredArgument error is = is
by_kind words kind.MissingSubcommand error is = is
by_kind words kind.DisplayHelp error is = is
by_kind words kind.DisplayHelpOnMissingArgumentOrSubcommand error is = is
by_kind words kind.DisplayVersion error is = is
by_kind words kind.Io error is = is
by_kind words kind.Format error is = is
by_kind words kind.OutOfMemory error is = tt

-- words that clap does not take
pub refused : (words : List Text) (error : Error) → HasKind (fault_of dts words) error → IsReading words (Err (refusal_of (kind_of error) error))
unfolding meaning_of
refused words error has = elim has [
  | inl memory ↦ rw memory tt
  | inr among ↦ go (fault_of dts words) refl (faults_alike words) among
]
  where
    go : (kinds : Kinds) → fault_of dts words ≡ kinds → AreAlike kinds → IsAmong (kind_of error) kinds → IsReading words (Err (refusal_of (kind_of error) error))
    go [] is alike among = absurd among
    go (k ∷ ks) is alike among =
        by_kind words (kind_of error) error
        (ap (λ kinds. meaning_by kinds (subcommand_of dts words)) is
        ∙ ap (λ b. if b then asks else nothing) (alike.each k (inl refl) ∙ sym (alike.each (kind_of error) among)))
