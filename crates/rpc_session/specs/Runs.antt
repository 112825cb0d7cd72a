-- What a session answers to PDUs that come one behind the other. Laws alone cite this file.
use Rattle.std.specs.Prelude.{ℕ, zero, suc, List, [], ◌∷◌, Result}
use Rattle.pdu_fields.specs.declared.pdu.Pdu.{Pdu}
use Rattle.rpc_session.specs.declared.fault.SessionFault.{SessionFault}
use Rattle.rpc_session.specs.declared.client.ClientOut.{ClientOut}
use Rattle.rpc_session.specs.declared.server.Out.{Out}
use Rattle.rpc_session.specs.Client.{ClientHistory, Took, taken}
use Rattle.rpc_session.specs.Server.{ServerHistory, Received, answered}

abbrev pub client_answers : ClientHistory → List Pdu → List (Result ClientOut SessionFault)
client_answers h [] = []
client_answers h (p ∷ ps) = taken h p ∷ client_answers (Took h p (taken h p)) ps

abbrev pub server_answers : ServerHistory → List Pdu → List (Result (List Out) SessionFault)
server_answers h [] = []
server_answers h (p ∷ ps) = answered h p ∷ server_answers (Received h p (answered h p)) ps

-- so many answers that are alike, and then another one
abbrev pub then_last : {A : Type 0} → ℕ → A → A → List A
then_last zero each last = last ∷ []
then_last (suc more) each last = each ∷ then_last more each last
