-- The contexts that are proposed to a server (C706, chapter 12), and its answers.
use Rattle.std.specs.Prelude.{ℕ, Bool, not, bytes_eq, nat_le, ◌==◌, ◌&&◌, if◌then◌else◌, List, [], ◌∷◌, ◌++◌, length, Option, Some, None, is_some}
use Rattle.std.specs.List.{list_any}
use Rattle.pdu_fields.specs.declared.header.TheConstants.{MAX_CONTEXTS}
use Rattle.pdu_fields.specs.declared.pdu.Syntax.{Syntax}
use Rattle.pdu_fields.specs.declared.pdu.Context.{Context}
use Rattle.pdu_fields.specs.declared.pdu.ContextResult.{ContextResult}
use Rattle.rpc_session.specs.declared.contexts.TheConstants.{TIME_UUID, TIME_VERSION, NDR_UUID, NDR_VERSION, NO_UUID, ACCEPTANCE, PROVIDER_REJECTION, NOT_SPECIFIED, ABSTRACT_NOT_SUPPORTED, TRANSFERS_NOT_SUPPORTED, LIMIT_EXCEEDED}

abbrev pub time_interface : Syntax
time_interface = record { uuid = TIME_UUID; version = TIME_VERSION }

abbrev pub ndr_syntax : Syntax
ndr_syntax = record { uuid = NDR_UUID; version = NDR_VERSION }

-- the transfer syntax of zeros that goes with a refusal
abbrev pub no_syntax : Syntax
no_syntax = record { uuid = NO_UUID; version = 0 }

abbrev pub same_syntax : Syntax → Syntax → Bool
same_syntax a b = bytes_eq a.uuid b.uuid && (a.version == b.version)

abbrev pub is_time_interface : Syntax → Bool
is_time_interface s = same_syntax s time_interface

abbrev pub is_ndr : Syntax → Bool
is_ndr s = same_syntax s ndr_syntax

-- whether a number is among these
abbrev pub holds : List ℕ → ℕ → Bool
holds ids id = list_any (λ n. n == id) ids

-- the reason to refuse a context to a client of whom these were accepted
abbrev pub refusal : List ℕ → Context → Option ℕ
refusal ids c =
    if not (is_time_interface c.abstract_syntax) then Some ABSTRACT_NOT_SUPPORTED
    else if not (list_any is_ndr c.transfers) then Some TRANSFERS_NOT_SUPPORTED
    else if not (holds ids c.id) && nat_le MAX_CONTEXTS (length ids) then Some LIMIT_EXCEEDED
    else None

abbrev pub result_of : Option ℕ → ContextResult
result_of None = record { «result» = ACCEPTANCE; reason = NOT_SPECIFIED; transfer = ndr_syntax }
result_of (Some reason) = record { «result» = PROVIDER_REJECTION; reason = reason; transfer = no_syntax }

abbrev pub context_result : List ℕ → Context → ContextResult
context_result ids c = result_of (refusal ids c)

-- those that are accepted behind a context: one that is accepted already counts once, and stays
abbrev pub accepted_with : List ℕ → Context → List ℕ
accepted_with ids c = if is_some (refusal ids c) then ids else if holds ids c.id then ids else ids ++ c.id ∷ []

abbrev pub accepted_after : List ℕ → List Context → List ℕ
accepted_after ids [] = ids
accepted_after ids (c ∷ cs) = accepted_after (accepted_with ids c) cs

-- the answers to contexts, one behind the other
abbrev pub context_results : List ℕ → List Context → List ContextResult
context_results ids [] = []
context_results ids (c ∷ cs) = context_result ids c ∷ context_results (accepted_with ids c) cs
