-- The versions of a row that are below no other are those that the tree keeps.
use Rattle.std.proofs.Common.{◌≡◌, ℕ, Bool, true, false, not, ◌||◌, cond, List, [], ◌∷◌, filter, map, refl, sym, ◌∙◌, ap}
use Rattle.std.specs.List.{list_any}
use Rattle.locus_ids.specs.declared.config.Config.{Config}
use Rattle.locus_ids.specs.declared.ids.FileId.{FileId}
use Rattle.locus_ids.specs.declared.ids.Stamp.{Stamp}
use Rattle.commit_graph.specs.Vectors.{vector_of}
use Rattle.commit_graph.specs.Versions.{is_covered, is_proper_ancestor, kept}
use Rattle.role_steps.specs.Own.{Every}
use Rattle.role_steps.specs.Versions.{is_below, is_below_some}
use Rattle.role_steps.specs.declared.synchronizing.VersionRow.{VersionRow}
use Rattle.the_run.specs.Worlds.{Line}
use Rattle.tree_model.specs.Histories.{history}
use Rattle.tree_laws.specs.Printed.{entries}
use Rattle.tree_laws.specs.Tables.{VersionFact, highest, row_stamp}
use Rattle.tree_laws.proofs.Boots.{every_both}
use Rattle.store_laws.proofs.of_tree_laws.Syncs.Versions.{row_stands, row_vector}
use Rattle.store_laws.specs.OneTree.Rest.{Past}
use Rattle.store_laws.proofs.OneTree.ToldVectorTelling.{vectors_tell_newer}

any_mapped : {A B : Type 0} (g : A → B) (p : A → Bool) (q : B → Bool) (xs : List A) → Every (λ (x : A). p x ≡ q (g x)) xs → list_any p xs ≡ list_any q (map g xs)
any_mapped g p q [] same = refl
any_mapped g p q (x ∷ xs) same = ap (λ (b : Bool). b || list_any p xs) same.0 ∙ ap (λ (b : Bool). q (g x) || b) (any_mapped g p q xs same.1)

filter_mapped : {A B : Type 0} (g : A → B) (p : A → Bool) (q : B → Bool) (xs : List A) → Every (λ (x : A). p x ≡ q (g x)) xs → map g (filter p xs) ≡ filter q (map g xs)
filter_mapped g p q [] same = refl
filter_mapped {A} {B} g p q (x ∷ xs) same = ap (λ (b : Bool). map g (cond b (x ∷ filter p xs) (filter p xs))) same.0 ∙ over (q (g x)) (filter_mapped g p q xs same.1)
  where
    over : (b : Bool) → map g (filter p xs) ≡ filter q (map g xs) → map g (cond b (x ∷ filter p xs) (filter p xs)) ≡ cond b (g x ∷ filter q (map g xs)) (filter q (map g xs))
    over true later = ap (λ (ys : List B). g x ∷ ys) later
    over false later = later

pub kept_high : (c : Config) (t : List Line) → Past c t → (f : FileId) (vs : List VersionRow) → Every (VersionFact c t f) vs → map row_stamp (highest vs) ≡ kept (history c (entries t)) f (map row_stamp vs)
kept_high c t past f vs facts = filter_mapped row_stamp (λ (v : VersionRow). not (is_below_some v vs)) (λ (s : Stamp). not (is_covered (history c (entries t)) f (map row_stamp vs) s)) vs (every_both (VersionFact c t f) (λ (v : VersionRow). not (is_below_some v vs) ≡ not (is_covered (history c (entries t)) f (map row_stamp vs) v.stamp)) vs one facts)
  where
    pair : (v w : VersionRow) → VersionFact c t f v → VersionFact c t f w → is_below v.vector w.vector ≡ is_proper_ancestor (history c (entries t)) f v.stamp w.stamp
    pair v w a b = ap (λ (x : List ℕ). is_below x w.vector) (row_vector c t f v a) ∙ (ap (λ (x : List ℕ). is_below (vector_of (history c (entries t)) f v.stamp) x) (row_vector c t f w b) ∙ sym (vectors_tell_newer c t past f v.stamp w.stamp (row_stands c t f v a) (row_stands c t f w b)))

    one : (v : VersionRow) → VersionFact c t f v → not (is_below_some v vs) ≡ not (is_covered (history c (entries t)) f (map row_stamp vs) v.stamp)
    one v a = ap not (any_mapped row_stamp (λ (w : VersionRow). is_below v.vector w.vector) (is_proper_ancestor (history c (entries t)) f v.stamp) vs (every_both (VersionFact c t f) (λ (w : VersionRow). is_below v.vector w.vector ≡ is_proper_ancestor (history c (entries t)) f v.stamp w.stamp) vs (λ w b. pair v w a b) facts))
