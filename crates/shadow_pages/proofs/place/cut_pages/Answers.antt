use Rattle.shadow_pages.proofs.Cut.{changed_cut, bytes_cut, zeros_cut}
use Rattle.shadow_pages.proofs.place.cut_pages.Goals as goal

pub returns-clause-changed : goal.returns-clause-changed
returns-clause-changed c = changed_cut c.args.pages.now.items c.truncate.new.self.items c.clear_page.new.pages.items c.args.len (rw c.pages_of.ensures at c.truncate.ensures.items) c.clear_page.ensures.others c.clear_page.ensures.none c.clear_page.ensures.cleared

pub returns-clause-bytes : goal.returns-clause-bytes
returns-clause-bytes c = bytes_cut c.args.pages.now.items c.truncate.new.self.items c.clear_page.new.pages.items c.args.len (rw c.pages_of.ensures at c.truncate.ensures.items) c.clear_page.ensures.others c.clear_page.ensures.none c.clear_page.ensures.cleared

pub returns-clause-zeros : goal.returns-clause-zeros
returns-clause-zeros c = zeros_cut c.args.pages.now.items c.truncate.new.self.items c.clear_page.new.pages.items c.args.len (rw c.pages_of.ensures at c.truncate.ensures.items) c.clear_page.ensures.others c.clear_page.ensures.none c.clear_page.ensures.cleared
