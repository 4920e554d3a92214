-- Laws of a list of calls of the model: the lines that it wrote, and its second list.
use mathlib.Core.Path.{◌≡◌, refl, sym, ap, ◌∙◌}
use mathlib.Core.Bool.{Bool, true, false, cond, false≢true}
use mathlib.Core.List.{List, [], ◌∷◌, ◌++◌, append-nil, nil≢cons, head-eq_of_cons-eq, tail-eq_of_cons-eq}
use Prim.Native.Nat.{ℕ, suc, ◌+◌, ◌<◌}
use native.Mathlib.Nat.{add-zero}
use native.Mathlib.Omega.{arith}
use lib.ListN.{length, take, drop, length-append}
use lib.Seq.{drop-cons}
use Rattle.bounds.proofs.Chains.{Accepts}
use Rattle.model.specs.Entry.{Entry, void_entry, entries_in}
use Rattle.model.specs.declared.Answer.{Answer}
use Rattle.model.specs.Printing.{Printing, blank, composition_at, stock}
use Rattle.model.specs.Model.{Call, peek, claim, void, claim_all, accepted, next, takes_checks, granted, answer, appended, after}
use Rattle.model.specs.Model.{Event, event, event_at, book_from}
use Rattle.model.specs.Trace.{writes, named, entry_of, is_claim, is_void, those, kept, takes_from, singles, writers, serials, entries_by, answered_compositions}
use Rattle.model.specs.Trace.{peeked, Foretold, count_from}
use Rattle.model.proofs.Lists.{length_snoc, snoc_append}
use Rattle.model.proofs.Stock.{stock_size, stock_at}
use Rattle.model.proofs.Answers.{peek_open}
use Rattle.model.proofs.Calls.{Reached, Grant, grant, accepts_answer, takes_split, bundle_takes}

module _ (p : Printing) where
  -- an accepted claim or void, where the lines l are written
  pub record Wrote (l : List Entry) (x : Event) : Type 0 where
    pub writing : writes x.call ≡ true
    pub granted : accepted (answer p l x.call) ≡ true
    pub answering : x ≡ event_at p l x.call

  -- from the lines l, by the events ws one after another, to the lines m
  abbrev pub Grown : List Entry → List Event → List Entry → Type 0
  Grown l [] m = l ≡ m
  Grown l (x ∷ ws) m = Wrote l x × Grown (l ++ appended x.call) ws m

  -- the takes of an accepted bundle, and what follows them
  grown_takes : (es l : List Entry) (s : ℕ) (t : List Event) (m : List Entry) → Accepts (takes_checks p l s es)
      → Grown (l ++ es) (writers p t) m → Grown l (those writes (kept (takes_from p s es ++ singles p t))) m
  grown_takes [] l s t m a g = rw (append-nil l) at g
  grown_takes (e ∷ es) l s t m a g =
      let q = takes_split p l s e es a in
      let reply = accepts_answer p l (claim s e) q.0 in
      let rest = grown_takes es (l ++ (e ∷ [])) (suc s) t m q.1 (rw (← (snoc_append l e es)) at g) in
      (record { writing = refl; granted = rw reply; answering = ap (event p (claim s e)) (sym reply) }, rest)

  -- a call and what follows it
  grown_call : (l : List Entry) (c : Call) (t : List Event) (m : List Entry)
      → Grown (after p l c) (writers p t) m → Grown l (writers p (event_at p l c ∷ t)) m
  unfolding after
  grown_call l c t m = go c (accepted (answer p l c)) refl
    where
      go : (c : Call) (b : Bool) → accepted (answer p l c) ≡ b
          → Grown (cond b (l ++ appended c) l) (writers p t) m
          → Grown l (writers p (event_at p l c ∷ t)) m
      go peek false q g = rw q g
      go (claim s e) false q g = rw q g
      go (void s) false q g = rw q g
      go (claim_all s b) false q g = rw q g
      go peek true q g = rw q (rw (append-nil l) at g)
      go (claim s e) true q g = rw q (record { writing = refl; granted = q; answering = refl }, g)
      go (void s) true q g = rw q (record { writing = refl; granted = q; answering = refl }, g)
      go (claim_all s b) true q g = rw q (grown_takes (entries_in b) l s t m (bundle_takes p l s b q).1 g)

  pub grown : (cs : List Call) (l : List Entry) → Grown l (writers p (book_from p l cs).trace) (book_from p l cs).entries
  unfolding book_from
  grown [] l = refl
  grown (c ∷ cs) l = grown_call l c (book_from p (after p l c) cs).trace (book_from p (after p l c) cs).entries (grown cs (after p l c))

  -- the call at any place of a trace: what the model had written before it
  pub record Stood (l : List Entry) (before : List Event) (x : Event) : Type 0 where
    pub entries : List Entry
    pub answering : x ≡ event_at p entries x.call
    pub by : Grown l (writers p before) entries

  pub stood :
      (before : List Event) (cs : List Call) (l : List Entry) (x : Event) (rest : List Event)
      → (book_from p l cs).trace ≡ before ++ (x ∷ rest)
      → Stood l before x
  unfolding book_from
  stood [] [] l x rest q = absurd (nil≢cons q)
  stood [] (c ∷ cs) l x rest q =
      let h : event_at p l c ≡ x = head-eq_of_cons-eq q in
      rw (← h) (record { entries = l; answering = refl; by = refl })
  stood (y ∷ before) [] l x rest q = absurd (nil≢cons q)
  stood (y ∷ before) (c ∷ cs) l x rest q =
      let h : event_at p l c ≡ y = head-eq_of_cons-eq q in
      let i = stood before cs (after p l c) x rest (tail-eq_of_cons-eq q) in
      rw (← h) (record { entries = i.entries; answering = i.answering; by = grown_call l c before i.entries i.by })

  -- ---- what such events say

  -- one line each, the serials in turn, each with its composition; and with a peek before each they do the same again
  pub record Facts (l : List Entry) (ws : List Event) (m : List Entry) : Type 0 where
    pub size : length m ≡ length l + length ws
    pub lines : m ≡ l ++ entries_by ws
    pub reached : Reached p m
    pub serial : serials ws ≡ count_from (next p l) (length ws)
    pub composition : answered_compositions ws ≡ take (length ws) (drop (length l) (stock p))
    pub again_entries : (book_from p l (peeked ws)).entries ≡ m
    pub again_trace : those writes (book_from p l (peeked ws)).trace ≡ ws
    pub again_peeks : Foretold (book_from p l (peeked ws)).trace

  -- a claim or a void appends its line, and is granted the serial that it names
  record OneLine (l : List Entry) (c : Call) : Type 0 where
    pub line : appended c ≡ entry_of c ∷ []
    pub longer : length (l ++ appended c) ≡ suc (length l)
    pub serial : granted p l c ≡ named c

  one_line : (l : List Entry) (c : Call) → writes c ≡ true → OneLine l c
  one_line l (claim s e) w = record { line = refl; longer = length_snoc l e ∙ omega arith; serial = refl }
  one_line l (void s) w = record { line = refl; longer = length_snoc l void_entry ∙ omega arith; serial = refl }
  one_line l peek w = absurd (false≢true w)
  one_line l (claim_all s b) w = absurd (false≢true w)

  peek_keeps : (l : List Entry) → after p l peek ≡ l
  unfolding after
  peek_keeps l = go (accepted (answer p l peek))
    where
      go : (b : Bool) → cond b (l ++ []) l ≡ l
      go true = append-nil l
      go false = refl

  accepted_after : (l : List Entry) (c : Call) → accepted (answer p l c) ≡ true → after p l c ≡ l ++ appended c
  unfolding after
  accepted_after l c t = rw t

  -- a peek and an accepted call
  again : (l : List Entry) (c : Call) (cs : List Call) → accepted (answer p l c) ≡ true
      → book_from p l (peek ∷ c ∷ cs)
      ≡ record {
        trace = event_at p l peek ∷ event_at p l c ∷ (book_from p (l ++ appended c) cs).trace;
        entries = (book_from p (l ++ appended c) cs).entries;
      }
  unfolding book_from
  again l c cs t = rw (peek_keeps l, accepted_after l c t)

  facts_none : (l : List Entry) → Reached p l → Facts l [] l
  unfolding book_from
  facts_none l h =
      record {
        size = sym (add-zero (length l));
        lines = sym (append-nil l);
        reached = h;
        serial = refl;
        composition = refl;
        again_entries = refl;
        again_trace = refl;
        again_peeks = tt;
      }

  facts_more : (x : Event) (ws : List Event) (l m : List Entry)
      → Reached p l → Wrote l x → Grant p l x.call → Facts (l ++ appended x.call) ws m → Facts l (x ∷ ws) m
  facts_more x ws l m h w a f =
      let c = x.call in
      let one = one_line l c w.writing in
      let turn : next p (l ++ appended c) ≡ suc (next p l) = omega (arith, one.longer) in
      let in-range : length l < length (stock p) = omega (arith, length-append l (appended c), one.longer, a.reached.fits, stock_size p) in
      let q = again l c (peeked ws) w.granted in
      let reply : x.reply.composition ≡ composition_at p (next p l) =
      ap (λ (y : Event). y.reply.composition) w.answering ∙ ap (λ (y : Answer). y.composition) a.reply in
      record {
        size = omega (arith, f.size, one.longer);
        lines = f.lines ∙ ap (λ (es : List Entry). (l ++ es) ++ entries_by ws) one.line ∙ snoc_append l (entry_of c) (entries_by ws);
        reached = f.reached;
        serial = rw (← one.serial, a.serial, f.serial, turn);
        composition = rw (reply, ← (stock_at p (length l)), f.composition, one.longer, drop-cons (stock p) (length l) blank in-range);
        again_entries = rw q f.again_entries;
        again_trace = rw (q, w.writing, f.again_trace) (ap (λ (y : Event). y ∷ ws) (sym w.answering));
        again_peeks = rw (q, peek_open p l a.inside) (refl, refl, sym a.serial ∙ one.serial, f.again_peeks);
      }

  pub facts : (ws : List Event) (l m : List Entry) → Reached p l → Grown l ws m → Facts l ws m
  facts [] l m h g = rw (← g) (facts_none l h)
  facts (x ∷ ws) l m h g =
      let a = grant p l x.call h g.0.granted in
      facts_more x ws l m h g.0 a (facts ws (l ++ appended x.call) m a.reached g.1)

-- each writer is a claim or a void
abbrev Parted : List Event → Type 0
Parted ws = length ws ≡ length (those is_claim ws) + length (those is_void ws)

pub claims_and_voids : (u : List Event) → Parted (those writes u)
claims_and_voids [] = refl
claims_and_voids (x ∷ u) = go x.call refl (claims_and_voids u)
  where
    go : (c : Call) → x.call ≡ c → Parted (those writes u) → Parted (those writes (x ∷ u))
    go peek e i = rw e i
    go (claim_all s b) e i = rw e i
    go (claim s o) e i = rw e (omega (arith, i))
    go (void s) e i = rw e (omega (arith, i))
