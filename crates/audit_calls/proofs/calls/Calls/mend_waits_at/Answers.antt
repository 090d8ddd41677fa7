use Rattle.std.proofs.Common.{◌≡◌, ◌∙◌, ℕ, Bool, true, false, ◌&&◌, ◌||◌, ◌==◌, List, [], ◌∷◌, sym, ap, refl}
use Rattle.std.specs.List.{list_any}
use Rattle.row_lists.proofs.Reversed.{reverse_any}
use Rattle.trace_book.specs.declared.call.Call.{Call}
use Rattle.trace_book.specs.declared.call.Call.TheVariants as call
use Rattle.lawful_trace.specs.CallRows.{is_mend_in}
use Rattle.promises.specs.Past.{CallSoFar}
use Rattle.promises.specs.Rows.{waits_at}
use Rattle.audit_calls.specs.Waiting.{group_mended, is_group, mends_at}
use Rattle.audit_calls.proofs.Waits.{waits_any}
use Rattle.audit_calls.proofs.calls.Calls.mend_waits_at.Goals as goal

-- the group of a mend is that of its directory
group_told : (group : ℕ) (words : Call) → is_mend_in group words ≡ is_group group (group_mended words)
group_told group (call.Mend file) = refl
group_told group _ = refl

-- that it waits is asked first
first : (site group : ℕ) (ks : List CallSoFar) → list_any (λ (k : CallSoFar). waits_at site 0 k && is_mend_in group k.words) ks ≡ list_any (λ (k : CallSoFar). k.waits && (((k.id.site == site) && (k.process == 0)) && is_group group (group_mended k.words))) ks
first site group [] = refl
first site group (k ∷ ks) = ap (λ b. b || list_any (λ (x : CallSoFar). waits_at site 0 x && is_mend_in group x.words) ks) (turn k.waits ((k.id.site == site) && (k.process == 0)) ∙ refl) ∙ ap (λ b. (k.waits && (((k.id.site == site) && (k.process == 0)) && is_group group (group_mended k.words))) || b) (first site group ks)
  where
    turn : (a b : Bool) → ((a && b) && is_mend_in group k.words) ≡ (a && (b && is_group group (group_mended k.words)))
    turn true b = ap (λ g. b && g) (group_told group k.words)
    turn false b = refl

pub returns : goal.returns
returns c =
    c.any_mend.ensures
    ∙ (ap (list_any (mends_at c.args.site c.args.group)) (c.as_slice.ensures.value ∙ c.self.invariant.waiting_are)
    ∙ (sym (waits_any (λ (k : CallSoFar). ((k.id.site == c.args.site) && (k.process == 0)) && is_group c.args.group (group_mended k.words)) (mends_at c.args.site c.args.group) (λ m k. refl) 0 c.self.inside.rows.items)
    ∙ (sym (first c.args.site c.args.group c.self.inside.rows.items)
    ∙ (sym (reverse_any (λ (k : CallSoFar). waits_at c.args.site 0 k && is_mend_in c.args.group k.words) c.self.inside.rows.items) ∙ ap (list_any (λ (k : CallSoFar). waits_at c.args.site 0 k && is_mend_in c.args.group k.words)) c.self.view_is))))
