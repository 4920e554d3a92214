-- `permutation::is_permutation` meets its contract. Of k entries, all of 1..k are among them exactly if the digits 1..k of their set are the largest number
-- of k digits.
use Rattle.std.proofs.Common.{sym, arith}
use Rattle.std.proofs.lemmas.Nat.{one_shl}
use Rattle.permutation.proofs.Sets.{other_size, one_over, set_test}
use Rattle.permutation.proofs.is_permutation.Goals as goal

pub returns-then-p-k : goal.returns-then-p-k
returns-then-p-k c = sym (other_size _ _ c.if-p-k.true)

pub returns-in-Some : goal.returns-in-Some
returns-in-Some c =
    rw (one_shl c.args.k 32 (omega arith)) (set_test c.args.k c.args.p.now c.in-Some.ensures c.requires c.if-p-k.false)

pub returns-in-None : goal.returns-in-None
returns-in-None c = sym (one_over _ _ c.in-None.ensures c.requires)
