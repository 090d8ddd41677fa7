use Rattle.std.proofs.Common.{◌∙◌, sym, ap}
use Rattle.std.specs.Prelude.{Option}
use Rattle.pack_slots.specs.declared.inode_copy.InodeCopy.{InodeCopy}
use Rattle.inode_pack.specs.Pack.{number_in}
use Rattle.inode_pack.proofs.PageLists.{few_more}
use Rattle.inode_pack.proofs.new_pages.number_before.Goals as goal

pub page_number-requires-clause-front : goal.page_number-requires-clause-front
page_number-requires-clause-front c = let is = c.requires.old c.in-Some.copy c.in-Some.is in is.0.pages.count

pub page_number-requires-clause-few : goal.page_number-requires-clause-few
page_number-requires-clause-few c = let is = c.requires.old c.in-Some.copy c.in-Some.is in few_more c.in-Some.copy is.0 is.1

pub returns-in-Some : goal.returns-in-Some
returns-in-Some c = c.page_number.ensures ∙ sym (ap (λ (o : Option InodeCopy). number_in o c.args.page) c.in-Some.is)

pub returns-in-None : goal.returns-in-None
returns-in-None c = sym (ap (λ (o : Option InodeCopy). number_in o c.args.page) c.in-None.is)
