use Rattle.std.proofs.Common.{sym}
use Rattle.roster.proofs.Walks.{items_view_is}
use Rattle.roster.proofs.first_wrong.servers.Goals as goal

pub returns-in-Some-as_array : goal.returns-in-Some-as_array
returns-in-Some-as_array c =
    rw (← c.in-Some.ensures, ← c.in-Some-as_array.ensures, c.as_slice.ensures.value) (sym (items_view_is c.in-Some-as_array.servers.now.items))
