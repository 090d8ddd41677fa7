-- The row of starts: a group that may start by the folds may by the past.
use Rattle.std.proofs.Common.{◌≡◌, ℕ, ◌&&◌, ◌||◌, not, Bool, true, false, cond, List, [], ◌∷◌, filter, refl, sym, ap, ◌∙◌}
use Rattle.std.specs.List.{list_all}
use Rattle.locus_ids.specs.declared.config.Config.{Config}
use Rattle.locus_ids.specs.declared.ids.Brought.{Brought}
use Rattle.locus_ids.specs.declared.ids.EpochId.{EpochId}
use Rattle.trace_book.specs.declared.record.Record.TheVariants as rec
use Rattle.tree_model.specs.Epochs.{has_joined, members_of}
use Rattle.tree_model.specs.Folds.{Trace}
use Rattle.tree_model.specs.Packs.{all_sites, has_pack, is_member, is_member_of}
use Rattle.tree_model.specs.Same.{same_all, same_brought}
use Rattle.tree_model.specs.Tree.{tree_of}
use Rattle.promises.specs.of_lawful_trace.TreeRows.{MayStart}
use Rattle.promises.specs.Past.{Past, epoch_at, is_number}
use Rattle.promises.specs.Rows.{brought_in, may_follow}
use Rattle.promises.specs.Same.{same_list}
use Rattle.past_laws.specs.Agreement.{Agrees}
use Rattle.past_laws.proofs.Names.{both, both_parts}
use Rattle.past_laws.proofs.RowsServed.{member_as, synced_as}

pub all_of_filter : {X : Type 0} (q p : X → Bool) (xs : List X) → list_all q (filter p xs) ≡ list_all (λ x. not (p x) || q x) xs
all_of_filter q p [] = refl
all_of_filter {X} q p (x ∷ xs) = over (all_of_filter q p xs) (p x)
  where
    over : list_all q (filter p xs) ≡ list_all (λ y. not (p y) || q y) xs → (b : Bool) → list_all q (cond b (x ∷ filter p xs) (filter p xs)) ≡ ((not b || q x) && list_all (λ y. not (p y) || q y) xs)
    over later true = ap (λ b. q x && b) later
    over later false = later

pub same_so : (xs ys : List Brought) → same_all xs ys ≡ same_list same_brought xs ys
same_so [] [] = refl
same_so [] (y ∷ ys) = refl
same_so (x ∷ xs) [] = refl
same_so (x ∷ xs) (y ∷ ys) = ap (λ b. same_brought x y && b) (same_so xs ys)

pub row_start : (c : Config) (before : Trace) (p : Past) (e : EpochId) (group : ℕ) (copies : List Brought) → Agrees c before p → MayStart c before e group copies → may_follow c p (rec.Start e group copies) ≡ true
row_start c before p e group copies a may =
    let gives = both_parts (not (tree_of c e group before).started) (same_all copies (tree_of c e group before).known) may.gives in
    both _ _ (ap not (a.trees.started e group) ∙ gives.0)
    (both _ _ (sym (synced_as c before p e group a) ∙ may.served)
    (both _ _ (all_of_filter (is_number (epoch_at p e).joined) (λ site. is_member (epoch_at p e).members site && has_pack c group site) all_sites ∙ (whole ∙ may.whole))
    (sym (same_so copies (brought_in (epoch_at p e) group)) ∙ (ap (same_all copies) (a.trees.known e group) ∙ gives.1))))
  where
    whole : list_all (λ site. not (is_member (epoch_at p e).members site && has_pack c group site) || is_number (epoch_at p e).joined site) all_sites
        ≡ list_all (λ site. not (is_member_of (members_of before e) site && has_pack c group site) || has_joined before site e) all_sites
    whole = ap (λ (q : ℕ → Bool). list_all q all_sites) (λ i site. not (member_as c before p e site a i && has_pack c group site) || a.epochs.joined e site i)
