use Rattle.std.proofs.Common.{List, sym, ap, ◌∙◌, ℕ}
use Rattle.role_steps.specs.of_dir_format.Contents.{entries_of}
use Rattle.role_steps.specs.of_dir_format.Lookups.{shown_names}
use Rattle.using_site.proofs.Awaited.{names_taken, whole_taken}
use Rattle.using_site.proofs.users.UsingSite.take_content.Goals as goal

pub returns-then-asks_whole : goal.returns-then-asks_whole
returns-then-asks_whole c = λ w r h. whole_taken c.take.result c.args.frame.now w c.args.bytes c.args.self.now _ _ _ (sym (c.asks_whole.ensures w h) ∙ c.if-asks_whole.true) (c.take.ensures w r h)

pub returns : goal.returns
returns c = λ w r h. names_taken c.take-2.result c.args.frame.now w c.args.bytes _ c.args.self.now _ _ _ (sym (c.asks_whole.ensures w h) ∙ c.if-asks_whole.false) (c.in_ok-names.ensures ∙ ap (λ (bs : List ℕ). shown_names (entries_of bs)) c.as_slice.ensures) (c.take-2.ensures w r h)
