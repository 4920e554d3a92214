-- Laws of bytes put into a buffer, one text behind the other.
use mathlib.Core.Path.{◌≡◌, refl, sym, ap, ◌∙◌}
use mathlib.Core.List.{List, [], ◌∷◌, ◌++◌, append_assoc, append-nil}
use Prim.Native.Nat.{ℕ, ◌+◌, ◌-◌, ◌≤◌, ◌<◌}
use native.Mathlib.Numerals.{add-one}
use native.Mathlib.Omega.{arith}
use lib.ListN.{length, take, drop, set, length-append, length-set, length-drop, take-append-drop, length-take}
use lib.Seq.{take-append_seam, take-suc-set, drop_at, drop-set-lt, drop-drop}
use Rattle.bounds.specs.Places.{copied}
use Rattle.bounds.proofs.Cells.{copied_front}
use Rattle.lines.specs.Append.{Appended}

pub nothing : (l : List ℕ) (at : ℕ) → Appended l l at at []
nothing l at = record { front = sym (append-nil (take at l)); rest = refl; ends = omega arith; size = refl }

-- a store
pub one : (l : List ℕ) (at x : ℕ) → at < length l → Appended l (set l at x) at (at + 1) (x ∷ [])
one l at x h =
    record {
      front = rw (add-one at, take-suc-set l at x h);
      rest = drop-set-lt (at + 1) l at x (omega arith);
      ends = refl;
      size = length-set l at x;
    }

-- one text behind the other
pub joined : {a b c : List ℕ} {at m e : ℕ} {t u : List ℕ} → Appended a b at m t → Appended b c m e u → Appended a c at e (t ++ u)
joined {a} {b} {c} {at} {m} {e} {t} {u} p q =
    record {
      front = q.front ∙ ap (λ (l : List ℕ). l ++ u) p.front ∙ append_assoc (take at a) t u;
      rest =
          q.rest ∙ ap (λ (n : ℕ). drop n b) (sym split) ∙ sym (drop-drop (e - m) m b)
          ∙ ap (drop (e - m)) p.rest ∙ drop-drop (e - m) m a ∙ ap (λ (n : ℕ). drop n a) split;
      ends = omega (arith, p.ends, q.ends, length-append t u);
      size = q.size ∙ p.size;
    }
  where
    split : m + (e - m) ≡ e
    split = omega (arith, q.ends)

pub two : (l : List ℕ) (at x y : ℕ) → at + 1 < length l → Appended l (set (set l at x) (at + 1) y) at (at + 2) (x ∷ y ∷ [])
two l at x y h =
    let e : at + 1 + 1 ≡ at + 2 = omega arith in
    rw e at (joined (one l at x (omega arith)) (one (set l at x) (at + 1) y (simp length-set (omega arith))))

pub retold : {a b : List ℕ} {at e : ℕ} {t u : List ℕ} → t ≡ u → Appended a b at e t → Appended a b at e u
retold eq p = rw (sym eq) p

-- the buffer as a whole
pub whole : {a b : List ℕ} {at e : ℕ} {t : List ℕ} → Appended a b at e t → b ≡ take at a ++ (t ++ drop e a)
whole {a} {b} {at} {e} {t} p = sym (take-append-drop e b) ∙ rw (p.front, p.rest) (append_assoc (take at a) t (drop e a))

pub within : {a b : List ℕ} {at e : ℕ} {t : List ℕ} → at ≤ length a → Appended a b at e t → e ≤ length a
within {a} {b} {at} {e} {t} h p =
    omega (arith, p.ends, p.size, ap length p.front, length-append (take at a) t, length-take e b, length-take at a)

-- a copied text
pub text : (t a b : List ℕ) → length t ≤ length a → b ≡ copied t a → Appended a b 0 (length t) t
text t a b l e =
    let is : b ≡ t ++ drop (length t) a = e ∙ copied_front t a l in
    record {
      front = rw is (take-append_seam t _);
      rest = rw is (drop_at t _ (length t) refl);
      ends = omega arith;
      size = rw is (length-append t _ ∙ omega (arith, length-drop (length t) a));
    }
