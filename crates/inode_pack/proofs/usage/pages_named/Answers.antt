use Rattle.inode_pack.proofs.usage.pages_named.Goals as goal

pub page_count-requires : goal.page_count-requires
page_count-requires c = (c.requires c.in-Some.one c.in-Some.is).size
