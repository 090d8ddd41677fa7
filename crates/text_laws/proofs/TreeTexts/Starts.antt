-- The versions with which a group starts ascend, as the text of a start has them.
use Rattle.std.proofs.Common.{◌≡◌, ℕ, true, not, ◌&&◌, ◌==◌, List, [], ◌∷◌, refl, ap, ◌∙◌}
use Rattle.std.specs.List.{list_all}
use Rattle.plain_facts.proofs.Numbers.{equal}
use Rattle.plain_facts.proofs.Tests.{and_true, both_true, false_true}
use Rattle.locus_ids.specs.declared.config.Config.{Config}
use Rattle.locus_ids.specs.declared.ids.Brought.{Brought}
use Rattle.locus_ids.specs.declared.ids.EpochId.{EpochId}
use Rattle.locus_ids.specs.declared.ids.Stamp.{Stamp}
use Rattle.commit_graph.specs.Versions.{same_stamp}
use Rattle.commit_graph.proofs.Names.{same_stamp_eq}
use Rattle.trace_book.specs.declared.record.Record.TheVariants as says
use Rattle.tree_model.specs.Same.{same_brought}
use Rattle.tree_model.specs.State.{is_brought_below}
use Rattle.promises.specs.Past.{Past, Epoch, epoch_at, is_number, packing}
use Rattle.promises.specs.After.{is_copy_below}
use Rattle.promises.specs.Rows.{brought_in, is_synced, may_follow, may_start}
use Rattle.promises.specs.Same.{same_list}
use Rattle.past_laws.specs.Agreement.{ascends}
use Rattle.past_laws.proofs.TreesKnown.{brought_in_ascends}
use Rattle.record_reading.specs.Ranges.{ascend, is_brought_before}

ascend_from : (bs : List Brought) → ascends is_brought_below bs ≡ true → ascend bs ≡ true
ascend_from [] h = refl
ascend_from (a ∷ []) h = refl
ascend_from (a ∷ b ∷ more) h =
    let parts = both_true (list_all (is_brought_below a) (b ∷ more)) (ascends is_brought_below (b ∷ more)) h in
    let next = both_true (is_brought_below a b) (list_all (is_brought_below a) more) parts.0 in
    and_true (is_brought_before a b) (ascend (b ∷ more)) next.0 (ascend_from (b ∷ more) parts.1)

brought_of : ℕ → Stamp → Brought
brought_of ino stamp = record { ino = ino; stamp = stamp }

brought_eq : (a b : Brought) → same_brought a b ≡ true → a ≡ b
unfolding brought_of
brought_eq a b h =
    let parts = both_true (a.ino == b.ino) (same_stamp a.stamp b.stamp) h in
    ap (λ i. brought_of i a.stamp) (equal a.ino b.ino parts.0) ∙ ap (brought_of b.ino) (same_stamp_eq a.stamp b.stamp parts.1)

lists_eq : (xs ys : List Brought) → same_list same_brought xs ys ≡ true → xs ≡ ys
lists_eq [] [] h = refl
lists_eq [] (y ∷ ys) h = absurd (false_true h)
lists_eq (x ∷ xs) [] h = absurd (false_true h)
lists_eq (x ∷ xs) (y ∷ ys) h =
    let parts = both_true (same_brought x y) (same_list same_brought xs ys) h in
    ap (λ b. b ∷ xs) (brought_eq x y parts.0) ∙ ap (λ bs. y ∷ bs) (lists_eq xs ys parts.1)

start_ascends : (c : Config) (t : Epoch) (group : ℕ) (copies : List Brought) → ascends is_copy_below t.known ≡ true → may_start c t group copies ≡ true → ascend copies ≡ true
start_ascends c t group copies known h =
    let a = both_true (not (is_number t.started group)) (is_synced c t group && (list_all (is_number t.joined) (packing c t group) && same_list same_brought copies (brought_in t group))) h in
    let b = both_true (is_synced c t group) (list_all (is_number t.joined) (packing c t group) && same_list same_brought copies (brought_in t group)) a.1 in
    let d = both_true (list_all (is_number t.joined) (packing c t group)) (same_list same_brought copies (brought_in t group)) b.1 in
    ap ascend (lists_eq copies (brought_in t group) d.1) ∙ ascend_from (brought_in t group) (brought_in_ascends group t.known known)

-- A start that may come names versions that ascend, where those that are known in its epoch do.
pub start_in_order : (c : Config) (p : Past) (e : EpochId) (group : ℕ) (copies : List Brought) → ascends is_copy_below (epoch_at p e).known ≡ true → may_follow c p (says.Start e group copies) ≡ true → ascend copies ≡ true
start_in_order c p e group copies known h = start_ascends c (epoch_at p e) group copies known h
