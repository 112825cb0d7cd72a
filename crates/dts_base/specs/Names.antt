-- The printed names of fields, causes and states. Our own choice, after C706.
use Rattle.std.specs.Prelude.{ℕ, List, codes}
use Rattle.dts_base.specs.declared.wire.Field.{Field}
use Rattle.dts_base.specs.declared.wire.Field.TheVariants as field
use Rattle.dts_base.specs.declared.wire.WireCause.{WireCause}
use Rattle.dts_base.specs.declared.wire.WireCause.TheVariants as cause
use Rattle.dts_base.specs.declared.wire.State.{State}
use Rattle.dts_base.specs.declared.wire.State.TheVariants as state

abbrev pub field_name : Field → List ℕ
field_name field.RpcVers = codes "rpc_vers"
field_name field.RpcVersMinor = codes "rpc_vers_minor"
field_name field.Ptype = codes "ptype"
field_name field.PfcFlags = codes "pfc_flags"
field_name field.DrepOrder = codes "drep_order"
field_name field.DrepRest = codes "drep_rest"
field_name field.FragLength = codes "frag_length"
field_name field.AuthLength = codes "auth_length"
field_name field.CallId = codes "call_id"
field_name field.MaxXmit = codes "max_xmit_frag"
field_name field.MaxRecv = codes "max_recv_frag"
field_name field.AssocGroup = codes "assoc_group_id"
field_name field.NContext = codes "n_context_elem"
field_name field.Reserved = codes "reserved"
field_name field.ContextId = codes "p_cont_id"
field_name field.NTransferSyn = codes "n_transfer_syn"
field_name field.AbstractUuid = codes "abstract_uuid"
field_name field.Version = codes "version"
field_name field.TransferUuid = codes "transfer_uuid"
field_name field.SecLength = codes "sec_length"
field_name field.SecAddress = codes "sec_address"
field_name field.Padding = codes "padding"
field_name field.NResults = codes "n_results"
field_name field.Result = codes "result"
field_name field.Reason = codes "reason"
field_name field.NProtocols = codes "n_protocols"
field_name field.Major = codes "major"
field_name field.Minor = codes "minor"
field_name field.AllocHint = codes "alloc_hint"
field_name field.Opnum = codes "opnum"
field_name field.ObjectUuid = codes "object_uuid"
field_name field.Stub = codes "stub"
field_name field.CancelCount = codes "cancel_count"
field_name field.Status = codes "status"
field_name field.Epoch = codes "epoch"
field_name field.WireVersion = codes "wire_version"
field_name field.UtcOctets = codes "utc_octets"
field_name field.Role = codes "role"
field_name field.Courier = codes "courier"
field_name field.Number = codes "number"
field_name field.StepNumber = codes "step_number"
field_name field.MaxCount = codes "max_count"
field_name field.StringOffset = codes "string_offset"
field_name field.ActualCount = codes "actual_count"
field_name field.StringOctets = codes "string_octets"
field_name field.Tail = codes "tail"
field_name field.NtpLength = codes "ntp_length"
field_name field.NtpVersion = codes "ntp_version"
field_name field.Input = codes "input"

abbrev pub cause_name : WireCause → List ℕ
cause_name cause.Short = codes "short"
cause_name cause.Value = codes "value"
cause_name cause.Extra = codes "extra"
cause_name cause.Long = codes "long"

abbrev pub state_name : State → List ℕ
state_name state.New = codes "new"
state_name state.Binding = codes "binding"
state_name state.Bound = codes "bound"
state_name state.Waiting = codes "waiting"
state_name state.Gathering = codes "gathering"
state_name state.Dead = codes "dead"
