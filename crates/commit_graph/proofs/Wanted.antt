-- One step of the walk from the newest version to the oldest.
use Rattle.std.proofs.Common.{◌≡◌, ℕ, Bool, true, false, ◌||◌, ◌&&◌, not, List, [], ◌∷◌, ◌++◌, refl, sym, ◌∙◌, ap, ⊎_elim, reverse, ◌+◌, ◌<◌, length, take, get_or}
use Rattle.std.proofs.lemmas.List.{take_more, reverse-append}
use Rattle.std.proofs.lemmas.Bool.{cases_Bool}
use Rattle.std.specs.List.{list_any, filter}
use Rattle.std.proofs.lemmas.List.Folds.{list_any-append}
use Rattle.locus_ids.specs.declared.ids.Stamp.{Stamp}
use Rattle.locus_ids.specs.declared.ids.FileId.{FileId}
use Rattle.commit_graph.specs.declared.history.Version.{Version}
use Rattle.commit_graph.specs.Versions.{same_file, same_stamp, is_ancestor, is_covered}
use Rattle.commit_graph.proofs.Names.{same_stamp_eq, same_stamp_sym}

regroup_found : (y l r : Bool) → (y || ((l && y) || r)) ≡ ((true && y) || r)
regroup_found true l r = refl
regroup_found false true r = refl
regroup_found false false r = refl

regroup_other : (p l y r : Bool) → (p || ((l && y) || r)) ≡ ((l && y) || (p || r))
regroup_other true true true r = refl
regroup_other true true false r = refl
regroup_other true false y r = refl
regroup_other false true y r = refl
regroup_other false false y r = refl

abbrev pub others : Version → List Stamp → List Stamp
others v ps = filter (λ s. not (same_stamp s v.stamp)) ps

abbrev pub has : Version → List Stamp → Bool
has v ps = list_any (λ s. same_stamp s v.stamp) ps

module _ (v : Version) (older : List Version) (file : FileId) (a : Stamp) where
  -- what the wanted stamps say of the newest version, which is of the file, and of the older ones
  pub any_split : (ps : List Stamp) → same_file v.file file ≡ true →
      list_any (is_ancestor (v ∷ older) file a) ps ≡ ((has v ps && (same_stamp a v.stamp || list_any (is_ancestor older file a) v.parents)) || list_any (is_ancestor older file a) (others v ps))
  any_split [] mine = refl
  any_split (p ∷ ps) mine = ⊎_elim
      (λ (e : same_stamp p v.stamp ≡ true).
      let back : same_stamp v.stamp p ≡ true = same_stamp_sym v.stamp p ∙ e in
      let same : same_stamp a p ≡ same_stamp a v.stamp = ap (same_stamp a) (same_stamp_eq p v.stamp e) in
      rw (mine, e, back, same, any_split ps mine) (regroup_found (same_stamp a v.stamp || list_any (is_ancestor older file a) v.parents) (has v ps) (list_any (is_ancestor older file a) (others v ps))))
      (λ (e : same_stamp p v.stamp ≡ false).
      let back : same_stamp v.stamp p ≡ false = same_stamp_sym v.stamp p ∙ e in
      rw (mine, e, back, any_split ps mine) (regroup_other (is_ancestor older file a p) (has v ps) (same_stamp a v.stamp || list_any (is_ancestor older file a) v.parents) (list_any (is_ancestor older file a) (others v ps))))
      (cases_Bool (same_stamp p v.stamp))

  no_others : (ps : List Stamp) → has v ps ≡ false → others v ps ≡ ps
  no_others [] e = refl
  no_others (p ∷ ps) e = ⊎_elim
      (λ (f : same_stamp p v.stamp ≡ true). absurd (let g : true ≡ false = rw f at e in cc))
      (λ (f : same_stamp p v.stamp ≡ false). rw f (ap (λ qs. p ∷ qs) (no_others ps (rw f at e))))
      (cases_Bool (same_stamp p v.stamp))

  -- the newest version isn't wanted
  pub any_not_wanted : (ps : List Stamp) → same_file v.file file ≡ true → has v ps ≡ false → list_any (is_ancestor (v ∷ older) file a) ps ≡ list_any (is_ancestor older file a) ps
  any_not_wanted ps mine e = any_split ps mine ∙ rw (e, no_others ps e) refl

  -- the newest version is wanted and is it
  pub any_found : (ps : List Stamp) → same_file v.file file ≡ true → has v ps ≡ true → same_stamp a v.stamp ≡ true → list_any (is_ancestor (v ∷ older) file a) ps ≡ true
  any_found ps mine e f = any_split ps mine ∙ rw (e, f) refl

  or_comm : (x y : Bool) → (x || y) ≡ (y || x)
  or_comm true true = refl
  or_comm true false = refl
  or_comm false true = refl
  or_comm false false = refl

  -- the newest version is wanted and isn't it: its parents are wanted in its place
  pub any_wanted : (ps : List Stamp) → same_file v.file file ≡ true → has v ps ≡ true → same_stamp a v.stamp ≡ false → list_any (is_ancestor (v ∷ older) file a) ps ≡ list_any (is_ancestor older file a) (others v ps ++ v.parents)
  any_wanted ps mine e f = any_split ps mine ∙ rw (e, f) (or_comm (list_any (is_ancestor older file a) v.parents) (list_any (is_ancestor older file a) (others v ps)) ∙ sym (list_any-append (is_ancestor older file a) (others v ps) v.parents))

-- the newest of one version more
pub newest_of : (vs : List Version) (left i : ℕ) (v : Version) → left ≡ i + 1 → i < length vs → v ≡ get_or vs i v → reverse (take left vs) ≡ v ∷ reverse (take i vs)
newest_of vs left i v e h is =
    let more : take left vs ≡ take i vs ++ v ∷ [] = rw e (take_more vs i v h ∙ ap (λ (w : Version). take i vs ++ w ∷ []) (sym is)) in
    ap reverse more ∙ reverse-append (take i vs) (v ∷ [])

-- covered by one of the brought, which may be it itself, is an ancestor of one of the others
pub covered_by_others : (history : List Version) (file : FileId) (a : Stamp) (ps : List Stamp) → list_any (is_ancestor history file a) (filter (λ s. not (same_stamp s a)) ps) ≡ is_covered history file ps a
covered_by_others history file a [] = refl
covered_by_others history file a (p ∷ ps) = ⊎_elim
    (λ (e : same_stamp p a ≡ true). let back : same_stamp a p ≡ true = same_stamp_sym a p ∙ e in rw (e, back) (covered_by_others history file a ps))
    (λ (e : same_stamp p a ≡ false). let back : same_stamp a p ≡ false = same_stamp_sym a p ∙ e in rw (e, back) (ap (λ (b : Bool). is_ancestor history file a p || b) (covered_by_others history file a ps)))
    (cases_Bool (same_stamp p a))
