use Rattle.std.proofs.Common.{◌∙◌, sym, ap, subst, ◌≡◌, true}
use Rattle.std.specs.List.{list_any}
use Rattle.locus_ids.specs.declared.ids.Serial.{Serial}
use Rattle.trace_book.specs.Same.{same_serial}
use Rattle.role_steps.specs.Views.{serial_key}
use Rattle.role_steps.specs.declared.synchronizing.SyncTable.{SyncTable}
use Rattle.css_core.proofs.Named.{is_named, found_key, none_named, some_named}
use Rattle.css_core.proofs.css.Css.is_opened.Goals as goal

pub is_named-requires : goal.is_named-requires
is_named-requires c = ap serial_key c.inst.ensures ∙ found_key (serial_key c.args.inst) c.self.inside.opens c.in-Some.entry.now (sym c.in-Some.ensures)

pub returns-in-Some : goal.returns-in-Some
returns-in-Some c = c.is_named.ensures.named ∙ sym (some_named c.args.inst c.self.inside.opens c.in-Some.entry.now (subst (λ (s : Serial). same_serial s c.args.inst ≡ true) c.inst.ensures (sym c.is_named.ensures.same ∙ c.is_named.ensures.named)) (sym c.in-Some.ensures)) ∙ ap (λ (t : SyncTable). list_any (is_named c.args.inst) t.opens) c.self.view_is

pub returns-in-None : goal.returns-in-None
returns-in-None c = sym (none_named c.args.inst c.self.inside.opens (sym c.in-None.ensures)) ∙ ap (λ (t : SyncTable). list_any (is_named c.args.inst) t.opens) c.self.view_is
