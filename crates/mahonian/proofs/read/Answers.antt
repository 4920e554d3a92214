-- `mahonian::read` meets its contract.
use Rattle.std.proofs.Common.{◌≡◌, ◌+◌, ◌≤◌, ◌<◌, Some, ap, ◌∙◌, get_or, arith}
use borrow.Author.Tests.{le-leb, lt-leb}
use Rattle.mahonian.specs.Mahonian.{top}
use Rattle.mahonian.specs.Table.{table, start}
use Rattle.mahonian.specs.Read.{read_of}
use Rattle.mahonian.proofs.Rows.{Row, row_at, stored_is}
use Rattle.mahonian.proofs.read.Goals as goal
use Rattle.mahonian.proofs.read.Goals.{After-start, then-k-lt2-via-then-k-lt2, then-k-lt2-via-else-k-lt2+then-k-gt16, then-k-lt2-via-else-k-lt2+else-k-gt16+then-top-r}

pub returns-then-k-lt2 : goal.returns-then-k-lt2
unfolding read_of
returns-then-k-lt2 c =
    let k = c.args.k in
    let r = c.args.r in
    elim c.then-k-lt2.branch [
      | then-k-lt2-via-then-k-lt2 w ↦ simp (lt-leb 2 k w.if-k-lt2.true)
      | then-k-lt2-via-else-k-lt2+then-k-gt16 w ↦ simp (le-leb 2 k w.if-k-lt2.false, lt-leb k 16 w.if-k-gt16.true)
      | then-k-lt2-via-else-k-lt2+else-k-gt16+then-top-r w ↦
          let past : top k < r = omega (arith, w.top.ensures, w.if-top-r.true) in
          simp (le-leb 2 k w.if-k-lt2.false, le-leb k 16 w.if-k-gt16.false, lt-leb r (top k) past)
    ]

row : (c : After-start) → Row c.args.k
row c = row_at c.args.k (omega arith)

pub overflow_add-start : goal.overflow_add-start
overflow_add-start c = omega (arith, row (goal.at.overflow_add-start c).After-start)

pub stored-requires : goal.stored-requires
stored-requires c = omega (arith, row (goal.at.stored-requires c).After-start)

pub returns : goal.returns
unfolding read_of
returns c =
    let x = c.args in
    let within : x.r ≤ top x.k = omega arith in
    let at : c.stored.result ≡ get_or table (start x.k + x.r) 0 = c.stored.ensures ∙ ap (λ n. get_or table (n + x.r) 0) c.start.ensures in
    simp
    (le-leb _ _ c.if-k-lt2.false, le-leb _ _ c.if-k-gt16.false, le-leb _ _ within)
    (ap Some (at ∙ stored_is x.k x.r (omega arith) (omega arith) within))
