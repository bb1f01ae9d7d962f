-- Before the first piece: a new session, and a hold buffer of zeros.
-- So the session is one that calls of `piece` lead to, none of them.
use Rattle.std.proofs.Common.{◌≡◌, [], replicate, sym, subst}
use Rattle.session.specs.declared.Session.{Session}
use Rattle.session.specs.Program.{first}
use Rattle.session.proofs.Reached.{starts}
use Rattle.capture.specs.Capture.{Between}
use Rattle.capture.proofs.print_all.Goals as goal

fresh : {s : Session} → s ≡ (first []).session → Between s (replicate 2048 0)
fresh e = subst (λ (s : Session). Between s (replicate 2048 0)) (sym e) (starts (replicate 2048 0))

pub invariant_of-capture : goal.invariant_of-capture
invariant_of-capture c = record { between = ∣ fresh c.new.ensures ∣₁ }

pub read_all-requires : goal.read_all-requires
read_all-requires c = fresh c.new.ensures
