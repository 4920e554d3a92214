-- What follows from the contracts alone, of two calls of the code: each hypothesis is what the contract of `rank` or of `unrank` says of a call.
use mathlib.Core.Path.{◌≡◌, sym, ap, ◌∙◌}
use mathlib.Core.List.{List}
use Prim.Native.Nat.{ℕ, ◌<◌}
use native.Mathlib.Omega.{arith}
use lib.ListN.{length}
use Rattle.bounds.specs.Refusal.{refused}
use Rattle.bounds.specs.declared.Refusal.{Refusal}
use Rattle.rank.specs.Rank.{Answer, answer_of, rank_answer}
use Rattle.rank.specs.Unrank.{unrank_call}
use Rattle.std.proofs.Common.{Result, Ok, Err}
use Rattle.bounds.specs.declared.Reason.{Reason}
use Rattle.rank.proofs.RoundTrips.{unrank_accepted, rank_unrank, unrank_rank}

-- the result of an accepted answer
pub serial_case : (x : Result ℕ Reason) (s : ℕ) → 0 < s → answer_of x ≡ record { number = 0; detail = 0; serial = s } → x ≡ Ok s
serial_case (Ok n) s some e = ap (λ (a : Answer). Ok a.serial) e
serial_case (Err e') s some e = let z = ap (λ (a : Answer). a.serial) e in absurd (omega arith)

module _ (ms : List ℕ) (r : ℕ) where
  -- serial to mix and back: `unrank` accepts s and leaves g, then `rank` is called on g and answers x
  pub unrank_then_rank : (s : ℕ) (out g : List ℕ) (v : Refusal) (x : Result ℕ Reason)
      → (v, g) ≡ unrank_call ms r s out → v.number ≡ 0
      → answer_of x ≡ rank_answer ms r g
      → x ≡ Ok s
  unrank_then_rank s out g v x e ok a =
      let done = ap (λ (p : Refusal × List ℕ). p.0.number) (sym e) ∙ ok in
      let left = ap (λ (p : Refusal × List ℕ). p.1) e in
      serial_case x s (unrank_accepted ms r s out done).1 (a ∙ ap (rank_answer ms r) left ∙ rank_unrank ms r s out done)

  -- mix to serial and back: `rank` answers s for g, then `unrank` is called on s with a part of n bytes, answers v and leaves h
  pub rank_then_unrank : (g : List ℕ) (s : ℕ) (out h : List ℕ) (v : Refusal)
      → answer_of (Ok s) ≡ rank_answer ms r g
      → length out ≡ length ms → (v, h) ≡ unrank_call ms r s out
      → (v ≡ refused 0 0) × (h ≡ g)
  rank_then_unrank g s out h v a n e =
      let done = ap (λ (x : Answer). x.number) (sym a) in
      let serial = ap (λ (x : Answer). x.serial) a in
      let p = e ∙ ap (λ (k : ℕ). unrank_call ms r k out) serial ∙ unrank_rank ms r g out done n in
      (ap (λ (q : Refusal × List ℕ). q.0) p, ap (λ (q : Refusal × List ℕ). q.1) p)
