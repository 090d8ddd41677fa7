-- The versions known in an epoch, by the trees and by the past; and epochs that are there.
use Rattle.std.proofs.Common.{◌≡◌, ◌==◌, ◌||◌, ◌&&◌, not, Bool, true, false, cond, List, [], ◌∷◌, filter, map, Option, Some, None, refl, sym, ap, subst, ◌∙◌}
use Rattle.std.specs.List.{find, list_any}
use Rattle.std.specs.Option.{is_none}
use Rattle.locus_ids.specs.declared.config.Config.{Config}
use Rattle.locus_ids.specs.declared.ids.EpochId.{EpochId}
use Rattle.locus_ids.specs.declared.ids.FileId.{FileId}
use Rattle.locus_ids.specs.declared.ids.Serial.{Serial}
use Rattle.locus_ids.specs.declared.ids.Stamp.{Stamp}
use Rattle.commit_graph.specs.Versions.{same_file}
use Rattle.tree_model.specs.declared.instance.Instance.{Instance as TreeInstance}
use Rattle.tree_model.specs.Folds.{Trace}
use Rattle.tree_model.specs.Given.{gives_release, instance_ends}
use Rattle.tree_model.specs.Histories.{history}
use Rattle.tree_model.specs.Same.{same_version}
use Rattle.tree_model.specs.State.{has_stamp, instance_in, is_named, stamps_of}
use Rattle.tree_model.specs.Tree.{candidates as tree_candidates, tree_of}
use Rattle.promises.specs.Past.{Copy, Epoch, Instance, Making, Past, candidates, epoch_at, unformed}
use Rattle.promises.specs.After.{is_epoch}
use Rattle.past_laws.specs.Agreement.{Agrees}
use Rattle.past_laws.specs.Made.{AreMade, are_made, is_made, is_sound}
use Rattle.past_laws.proofs.Names.{both_parts, epoch_eq, false_true, file_eq}
use Rattle.past_laws.proofs.Changing.{Finds, any_finds, first_found}
use Rattle.past_laws.proofs.Alls.{all_first, all_first_or, all_found}
use Rattle.past_laws.proofs.MadeFinds.{OpenHere, open_here, opened_at}

-- Epochs that are there.

pub home_found : (p : Past) (e : EpochId) → list_any (is_epoch e) p.epochs ≡ true → ((epoch_at p e).id ≡ e) × (find (is_epoch (epoch_at p e).id) p.epochs ≡ Some (epoch_at p e))
home_found p e h = over (any_finds (is_epoch e) p.epochs h)
  where
    over : Finds (is_epoch e) p.epochs → ((epoch_at p e).id ≡ e) × (find (is_epoch (epoch_at p e).id) p.epochs ≡ Some (epoch_at p e))
    over it =
        let own = first_found (unformed e) (is_epoch e) p.epochs it.one it.found in
        let id = epoch_eq it.one.id e it.passes in (
          ap (λ (t : Epoch). t.id) own ∙ id,
          subst (λ (t : Epoch). find (is_epoch t.id) p.epochs ≡ Some t) (sym own) (subst (λ i. find (is_epoch i) p.epochs ≡ Some it.one) (sym id) it.found),
        )

pub filter_finds : {X : Type 0} (q : X → Bool) (xs : List X) (y : X) (ys : List X) → filter q xs ≡ y ∷ ys → find q xs ≡ Some y
filter_finds q [] y ys e = absurd (cc)
filter_finds {X} q (x ∷ xs) y ys e = over (λ k. filter_finds q xs y ys k) (q x) refl
  where
    head : {A : Type 0} (a b : A) (ones others : List A) → a ∷ ones ≡ b ∷ others → a ≡ b
    head a b ones others k = cc

    over : (filter q xs ≡ y ∷ ys → find q xs ≡ Some y) → (b : Bool) → q x ≡ b → find q (x ∷ xs) ≡ Some y
    over later true f = rw f (ap (λ z. Some z) (head x y (filter q xs) ys (rw f at e)))
    over later false f = rw f (later (rw f at e))

-- Known versions.

-- those of a file, by the inodes of its group
stamps_alike : (f : FileId) (vs : List Copy) → stamps_of (map (λ (v : Copy). record { ino = v.file.ino; stamp = v.stamp }) (filter (λ (v : Copy). v.file.group == f.group) vs)) f.ino ≡ map (λ (v : Copy). v.stamp) (filter (λ (v : Copy). same_file v.file f) vs)
stamps_alike f [] = refl
stamps_alike f (v ∷ vs) = over (v.file.group == f.group) (v.file.ino == f.ino) refl refl (stamps_alike f vs)
  where
    over : (a b : Bool) → (v.file.group == f.group) ≡ a → (v.file.ino == f.ino) ≡ b
        → stamps_of (map (λ (w : Copy). record { ino = w.file.ino; stamp = w.stamp }) (filter (λ (w : Copy). w.file.group == f.group) vs)) f.ino ≡ map (λ (w : Copy). w.stamp) (filter (λ (w : Copy). same_file w.file f) vs)
        → stamps_of (map (λ (w : Copy). record { ino = w.file.ino; stamp = w.stamp }) (cond a (v ∷ filter (λ (w : Copy). w.file.group == f.group) vs) (filter (λ (w : Copy). w.file.group == f.group) vs))) f.ino ≡ map (λ (w : Copy). w.stamp) (cond (a && (v.file.ino == f.ino)) (v ∷ filter (λ (w : Copy). same_file w.file f) vs) (filter (λ (w : Copy). same_file w.file f) vs))
    over true true h k later = rw k (ap (λ ss. v.stamp ∷ ss) later)
    over true false h k later = rw k later
    over false b h k later = later

pub candidates_alike : (c : Config) (before : Trace) (p : Past) (e : EpochId) (f : FileId) → Agrees c before p → tree_candidates c before e f ≡ candidates (epoch_at p e) f
candidates_alike c before p e f a = ap (λ bs. stamps_of bs f.ino) (sym (a.trees.known e f.group)) ∙ stamps_alike f (epoch_at p e).known

-- a version that is known is of a file that is made
pub candidate_made : (files : List Making) (f : FileId) (s : Stamp) (vs : List Copy) → has_stamp (map (λ (v : Copy). v.stamp) (filter (λ (v : Copy). same_file v.file f) vs)) s ≡ true → are_made files vs ≡ true → is_made files f ≡ true
candidate_made files f s [] h k = false_true h
candidate_made files f s (v ∷ vs) h k =
    let parts = all_first (λ (w : Copy). is_made files w.file) v vs k in
    over parts.0 (λ l. candidate_made files f s vs l parts.1) (same_file v.file f) refl
  where
    over : is_made files v.file ≡ true → (has_stamp (map (λ (w : Copy). w.stamp) (filter (λ (w : Copy). same_file w.file f) vs)) s ≡ true → is_made files f ≡ true) → (b : Bool) → same_file v.file f ≡ b → is_made files f ≡ true
    over own later true e = subst (λ g. is_made files g ≡ true) (file_eq v.file f e) own
    over own later false e = later (rw e at h)

pub known_at : (p : Past) (e : EpochId) → AreMade p → are_made p.files (epoch_at p e).known ≡ true
known_at p e a = all_first_or (λ (t : Epoch). are_made p.files t.known) (is_epoch e) (unformed e) p.epochs refl a.known

-- A released version is of a file that is made.

sound_version : (files : List Making) (x : Instance) (s : Stamp) → same_version (Some s) x.work.committed ≡ true → is_sound files x ≡ true → is_made files x.grant.file ≡ true
sound_version files x s h k = over x.work.committed h k
  where
    over : (o : Option Stamp) → same_version (Some s) o ≡ true → ((is_none o && not (x.grant.file.ino == 1)) || is_made files x.grant.file) ≡ true → is_made files x.grant.file ≡ true
    over None h k = false_true h
    over (Some t) h k = k

pub release_made : (c : Config) (before : Trace) (p : Past) (e : EpochId) (i : Serial) (f : FileId) (s : Stamp) → Agrees c before p → AreMade p → gives_release (history c before) (tree_of c e f.group before) i f (Some s) ≡ true → is_made p.files f ≡ true
release_made c before p e i f s a made h = over (instance_in (tree_of c e f.group before) i) refl h
  where
    here : (y : TreeInstance) → (same_file y.grant.file f ≡ true) × (same_version (Some s) y.work.committed ≡ true) → OpenHere (epoch_at p e) f.group (is_named i) y → is_made p.files f ≡ true
    here y parts it =
        let own = subst (λ (z : TreeInstance). (same_file z.grant.file f ≡ true) × (same_version (Some s) z.work.committed ≡ true)) (sym it.is) parts in
        subst (λ g. is_made p.files g ≡ true) (file_eq it.one.grant.file f own.0)
        (sound_version p.files it.one s own.1 (all_found (is_sound p.files) _ (epoch_at p e).opened it.one it.found (opened_at p e (is_sound p.files) made.opened)))

    over : (o : Option TreeInstance) → instance_in (tree_of c e f.group before) i ≡ o → instance_ends (history c before) (tree_of c e f.group before) f (Some s) o ≡ true → is_made p.files f ≡ true
    over None k l = false_true l
    over (Some y) k l =
        let parts = both_parts (same_file y.grant.file f) _ l in
        here y (parts.0, (both_parts (same_version (Some s) y.work.committed) _ parts.1).0) (open_here c before p e f.group (is_named i) y a k)
