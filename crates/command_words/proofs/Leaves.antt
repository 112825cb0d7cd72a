-- The commands as clap builds them.
use Rattle.std.proofs.Common.{refl, codes}
use Rattle.clap.specs.Words.{Shape}
use Rattle.clap.specs.Simple.{built, built_leaf, inherited, marked_built, on_top, with_leaf_noted}
use Rattle.clap.proofs.OnLiterals.{clap_on_literals}
use Rattle.command_words.specs.Syntax.{clerk_shape, control_shape, drill_shape, dts, server_shape}
use Rattle.command_words.proofs.Entering.{Enters}

-- a command below the program
abbrev pub leaf_of : Shape → Shape
leaf_of s = built_leaf (inherited (on_top with_leaf_noted (on_top marked_built dts)).top s)

abbrev pub clerk_leaf : Shape
clerk_leaf = leaf_of clerk_shape

abbrev pub server_leaf : Shape
server_leaf = leaf_of server_shape

abbrev pub drill_leaf : Shape
drill_leaf = leaf_of drill_shape

abbrev pub control_leaf : Shape
control_leaf = leaf_of control_shape

pub clerk_enters : Enters (built dts) (codes "clerk") clerk_leaf
unfolding clap_on_literals
clerk_enters = record { first = refl; quiet = refl; found = refl; defaults = refl; checks = refl; name = refl }

pub server_enters : Enters (built dts) (codes "server") server_leaf
unfolding clap_on_literals
server_enters = record { first = refl; quiet = refl; found = refl; defaults = refl; checks = refl; name = refl }

pub drill_enters : Enters (built dts) (codes "drill") drill_leaf
unfolding clap_on_literals
drill_enters = record { first = refl; quiet = refl; found = refl; defaults = refl; checks = refl; name = refl }

pub control_enters : Enters (built dts) (codes "control") control_leaf
unfolding clap_on_literals
control_enters = record { first = refl; quiet = refl; found = refl; defaults = refl; checks = refl; name = refl }
