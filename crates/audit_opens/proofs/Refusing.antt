-- What refuses an open.
use Rattle.std.proofs.Common.{◌≡◌, ℕ, ◌&&◌, ◌||◌, Bool, true, false, List, Option, None, Some, refl, sym, ap, ◌∙◌}
use Rattle.std.specs.List.{list_any}
use Rattle.std.specs.Option.{option_or}
use Rattle.locus_ids.specs.declared.config.Config.{Config}
use Rattle.locus_ids.specs.declared.ids.FileId.{FileId}
use Rattle.locus_ids.specs.declared.ids.Mode.{Mode}
use Rattle.locus_ids.specs.declared.ids.Stamp.{Stamp}
use Rattle.locus_ids.specs.declared.refusal.Refusal.{Refusal}
use Rattle.locus_ids.specs.declared.refusal.Refusal.TheVariants.{NoInode}
use Rattle.commit_graph.specs.Grants.{grant_refusal}
use Rattle.trace_book.specs.declared.call.Call.{Call}
use Rattle.tree_model.specs.Same.{same_refusal}
use Rattle.tree_model.specs.State.{is_make}
use Rattle.tree_model.specs.Working.{list_of}
use Rattle.promises.specs.Past.{CallSoFar, Copy, Epoch, Instance, Past, copies_in, kept_in}
use Rattle.promises.specs.Rows.{is_refused}
use Rattle.promises.specs.Tree.{has_kept, lacks_numbers, open_refusal, openers, place_for, resolves_from}
use Rattle.audit_tree.specs.Parts.{has_kept_among}
use Rattle.audit_opens.specs.Once.{openers_among}

or_none : (b : Bool) → b ≡ (b || false)
or_none true = refl
or_none false = refl

or_nothing : (o : Option Refusal) → o ≡ option_or o None
or_nothing None = refl
or_nothing (Some r) = refl

module _ (c : Config) (p : Past) (t : Epoch) (f : FileId) where
  pub no_other : (mode : Mode) (opened : List Instance) (kept : List Stamp) (gave : Option Refusal) → opened ≡ t.opened → kept ≡ kept_in p t f → gave ≡ grant_refusal mode (openers_among opened f) kept
      → gave ≡ option_or (grant_refusal mode (openers t f) (kept_in p t f)) None
  no_other mode opened kept gave o k g =
      g ∙ ap (λ xs. grant_refusal mode (openers_among xs f) kept) o ∙ ap (grant_refusal mode (openers t f)) k ∙ or_nothing (grant_refusal mode (openers t f) (kept_in p t f))

  pub turn_some : (mode : Mode) (opened : List Instance) (kept : List Stamp) (r : Refusal) (other : Option Refusal) → opened ≡ t.opened → kept ≡ kept_in p t f → Some r ≡ grant_refusal mode (openers_among opened f) kept
      → Some r ≡ option_or (grant_refusal mode (openers t f) (kept_in p t f)) other
  turn_some mode opened kept r other o k g =
      let is : Some r ≡ grant_refusal mode (openers t f) (kept_in p t f) = g ∙ ap (λ xs. grant_refusal mode (openers_among xs f) kept) o ∙ ap (grant_refusal mode (openers t f)) k in
      ap (λ v. option_or v other) is

  pub turn_none : (mode : Mode) (opened : List Instance) (kept : List Stamp) (gave other : Option Refusal) → opened ≡ t.opened → kept ≡ kept_in p t f → None ≡ grant_refusal mode (openers_among opened f) kept → gave ≡ other
      → gave ≡ option_or (grant_refusal mode (openers t f) (kept_in p t f)) other
  turn_none mode opened kept gave other o k g e =
      let is : None ≡ grant_refusal mode (openers t f) (kept_in p t f) = g ∙ ap (λ xs. grant_refusal mode (openers_among xs f) kept) o ∙ ap (grant_refusal mode (openers t f)) k in
      e ∙ ap (λ v. option_or v other) is

  pub named_so : (words : Call) (named : Option ℕ) (site : ℕ) (kept : List Stamp) (copies : List Copy) (has : Bool) → list_of named ≡ resolves_from words → Some site ≡ named → copies ≡ copies_in p t site → has ≡ has_kept_among f kept copies → kept ≡ kept_in p t f
      → has ≡ list_any (has_kept p t f) (resolves_from words)
  named_so words named site kept copies has is it v h k =
      h ∙ ap (has_kept_among f kept) v ∙ ap (λ ss. has_kept_among f ss (copies_in p t site)) k ∙ or_none (has_kept p t f site)
      ∙ ap (λ o. list_any (has_kept p t f) (list_of o)) it ∙ ap (list_any (has_kept p t f)) is

  pub none_named : (words : Call) (named : Option ℕ) → list_of named ≡ resolves_from words → None ≡ named → false ≡ list_any (has_kept p t f) (resolves_from words)
  none_named words named is it = ap (λ o. list_any (has_kept p t f) (list_of o)) it ∙ ap (list_any (has_kept p t f)) is

  pub refused_some : (k : CallSoFar) (m : Mode) (why refusal : Refusal) (same : Bool) → Some refusal ≡ open_refusal c p t k m f → same ≡ same_refusal refusal why → same ≡ is_refused c p t m f why k
  refused_some k m why refusal same is e = by (open_refusal c p t k m f) refl is
    where
      by : (o : Option Refusal) → open_refusal c p t k m f ≡ o → Some refusal ≡ o → same ≡ is_refused c p t m f why k
      by None at it = absurd (let h : ◌≡◌ {A = Option Refusal} (Some refusal) None = it in cc)
      by (Some r) at it = rw at (e ∙ ap (λ s. same_refusal s why) (let h : ◌≡◌ {A = Option Refusal} (Some refusal) (Some r) = it in cc))

  pub refused_none : (k : CallSoFar) (m : Mode) (why : Refusal) (lacks : Bool) → None ≡ open_refusal c p t k m f
      → lacks ≡ (is_make m && (same_refusal why NoInode && list_any (lacks_numbers c p t f.group) (place_for c t f.group k))) → lacks ≡ is_refused c p t m f why k
  refused_none k m why lacks is e = rw (sym is) e

  pub lacks_one : (group : ℕ) (k : CallSoFar) (place : Option ℕ) (site : ℕ) (lacks : Bool) → list_of place ≡ place_for c t group k → Some site ≡ place → lacks ≡ lacks_numbers c p t group site → lacks ≡ list_any (lacks_numbers c p t group) (place_for c t group k)
  lacks_one group k place site lacks is it e = e ∙ or_none (lacks_numbers c p t group site) ∙ ap (λ o. list_any (lacks_numbers c p t group) (list_of o)) it ∙ ap (list_any (lacks_numbers c p t group)) is

  pub lacks_none : (group : ℕ) (k : CallSoFar) (place : Option ℕ) → list_of place ≡ place_for c t group k → None ≡ place → false ≡ list_any (lacks_numbers c p t group) (place_for c t group k)
  lacks_none group k place is it = ap (λ o. list_any (lacks_numbers c p t group) (list_of o)) it ∙ ap (list_any (lacks_numbers c p t group)) is
