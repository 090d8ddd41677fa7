use Rattle.std.proofs.Common.{◌∙◌, get_or, sym, ap}
use Rattle.std.specs.Prelude.{Option}
use Rattle.std.proofs.lemmas.List.{get_or-replicate}
use Rattle.locus_ids.specs.Sizes.{content_pages_max}
use Rattle.pack_layout.specs.Layout.{none}
use Rattle.pack_slots.specs.declared.inode_copy.InodeCopy.{InodeCopy}
use Rattle.inode_pack.specs.Rows.{numbers_so_far}
use Rattle.inode_pack.proofs.PageLists.{few_more}
use Rattle.inode_pack.proofs.usage.number_so_far.Goals as goal

pub page_number-requires-clause-front : goal.page_number-requires-clause-front
page_number-requires-clause-front c = let is = c.requires.old c.in-Some.one c.in-Some.is in is.0.pages.count

pub page_number-requires-clause-few : goal.page_number-requires-clause-few
page_number-requires-clause-few c = let is = c.requires.old c.in-Some.one c.in-Some.is in few_more c.in-Some.one is.0 is.1

pub returns-in-Some : goal.returns-in-Some
returns-in-Some c = c.page_number.ensures ∙ sym (ap (λ (o : Option InodeCopy). get_or (numbers_so_far o) c.args.page 0) c.in-Some.is)

pub returns-in-None : goal.returns-in-None
returns-in-None c = sym (get_or-replicate content_pages_max c.args.page none 0 c.requires.most) ∙ sym (ap (λ (o : Option InodeCopy). get_or (numbers_so_far o) c.args.page 0) c.in-None.is)
