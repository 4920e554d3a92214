-- `lines::put_page` meets its contract.
use Rattle.lines.specs.Page.{page_of}
use Rattle.lines.proofs.put_page.Goals as goal

pub returns-in-Ok : goal.returns-in-Ok
unfolding page_of
returns-in-Ok c = rw (c.in-Ok.ensures.found.output, ← c.bounds.ensures) c.list.ensures

pub returns-in-Err : goal.returns-in-Err
unfolding page_of
returns-in-Err c = rw c.in-Err.ensures.refused c.refuse.ensures

pub list-requires : goal.list-requires
list-requires c = rw c.bounds.ensures c.in-Ok.ensures.found.listed
