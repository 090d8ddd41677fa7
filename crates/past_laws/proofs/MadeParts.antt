-- Files that are made stay made, and calls that were accepted stay there; what becomes of versions and instances.
use Rattle.std.proofs.Common.{◌≡◌, ◌==◌, ◌||◌, ◌&&◌, not, Bool, true, false, cond, List, [], ◌∷◌, Option, Some, None, refl}
use Rattle.std.specs.List.{list_any, list_all}
use Rattle.std.specs.Option.{is_none}
use Rattle.locus_ids.specs.declared.ids.CallId.{CallId}
use Rattle.locus_ids.specs.declared.ids.FileId.{FileId}
use Rattle.trace_book.specs.declared.operation.Op.{Op}
use Rattle.trace_book.specs.declared.operation.Op.TheVariants as op
use Rattle.trace_book.specs.declared.operation.Outcome.{Outcome}
use Rattle.tree_model.specs.of_file_effects.Effects.{Effect, is_refusal}
use Rattle.tree_model.specs.of_file_effects.Works.{operated, counted, carried_out}
use Rattle.tree_model.specs.of_file_effects.declared.work.Work.{Work}
use Rattle.tree_model.specs.Working.{operated_by}
use Rattle.promises.specs.Past.{CallSoFar, Copy, Epoch, Instance, Making, Past}
use Rattle.promises.specs.After.{is_copy_below, is_id, with_known, with_all_known}
use Rattle.promises.specs.Tree.{effect_on, work_after}
use Rattle.past_laws.specs.Made.{are_made, is_called, is_made, is_sound}
use Rattle.past_laws.proofs.Alls.{all_first, all_more, all_weaker}

-- Files and calls that there are more of.

abbrev pub MoreFiles : List Making → List Making → Type 0
MoreFiles old new = (f : FileId) → is_made old f ≡ true → is_made new f ≡ true

abbrev pub MoreCalls : List CallSoFar → List CallSoFar → Type 0
MoreCalls old new = (id : CallId) → list_any (is_id id) old ≡ true → list_any (is_id id) new ≡ true

pub copies_more : (old new : List Making) → MoreFiles old new → (vs : List Copy) → are_made old vs ≡ true → are_made new vs ≡ true
copies_more old new more vs h = all_weaker (λ (v : Copy). is_made old v.file) (λ (v : Copy). is_made new v.file) (λ v k. more v.file k) vs h

or_more : (a b c : Bool) → (b ≡ true → c ≡ true) → (a || b) ≡ true → (a || c) ≡ true
or_more true b c f h = refl
or_more false b c f h = f h

pub sound_more : (old new : List Making) → MoreFiles old new → (xs : List Instance) → list_all (is_sound old) xs ≡ true → list_all (is_sound new) xs ≡ true
sound_more old new more xs h = all_weaker (is_sound old) (is_sound new) (λ x k. or_more (is_none x.work.committed && not (x.grant.file.ino == 1)) (is_made old x.grant.file) (is_made new x.grant.file) (more x.grant.file) k) xs h

pub called_more : (old new : List CallSoFar) → MoreCalls old new → (ts : List Epoch) → list_all (λ (t : Epoch). list_all (is_called old) t.opened) ts ≡ true → list_all (λ (t : Epoch). list_all (is_called new) t.opened) ts ≡ true
called_more old new more ts h = all_weaker (λ (t : Epoch). list_all (is_called old) t.opened) (λ (t : Epoch). list_all (is_called new) t.opened)
    (λ t k. all_weaker (is_called old) (is_called new) (λ x l. more x.grant.call l) t.opened k) ts h

-- Known versions.

known_made : (files : List Making) (new : Copy) (vs : List Copy) → is_made files new.file ≡ true → are_made files vs ≡ true → are_made files (with_known new vs) ≡ true
known_made files new [] own h = all_more (λ (v : Copy). is_made files v.file) new [] own refl
known_made files new (v ∷ vs) own h =
    let parts = all_first (λ (w : Copy). is_made files w.file) v vs h in
    over (is_copy_below new v) (is_copy_below v new) (all_more (λ (w : Copy). is_made files w.file) v (with_known new vs) parts.0 (known_made files new vs own parts.1))
  where
    over : (a b : Bool) → are_made files (v ∷ with_known new vs) ≡ true → are_made files (cond a (new ∷ v ∷ vs) (cond b (v ∷ with_known new vs) (v ∷ vs))) ≡ true
    over true b later = all_more (λ (w : Copy). is_made files w.file) new (v ∷ vs) own h
    over false true later = later
    over false false later = h

pub all_known_made : (files : List Making) (news vs : List Copy) → are_made files news ≡ true → are_made files vs ≡ true → are_made files (with_all_known news vs) ≡ true
all_known_made files [] vs own h = h
all_known_made files (new ∷ news) vs own h =
    let parts = all_first (λ (v : Copy). is_made files v.file) new news own in
    all_known_made files news (with_known new vs) parts.1 (known_made files new vs parts.0 h)

-- Operations commit nothing.

operated_kept : (e : Effect) (result : Outcome) (w : Work) → (operated e result w).committed ≡ w.committed
operated_kept e result w = over (is_refusal result)
  where
    over : (b : Bool) → (cond b (counted w) (carried_out e w)).committed ≡ w.committed
    over true = refl
    over false = refl

by_kept : (result : Outcome) (d : Option Effect) (w : Work) → (operated_by result d w).committed ≡ w.committed
by_kept result None w = refl
by_kept result (Some e) w = operated_kept e result w

pub work_kept : (p : Past) (t : Epoch) (o : Op) (result : Outcome) (x : Instance) → (work_after p t o result x).committed ≡ x.work.committed
work_kept p t op.Commit result x = refl
work_kept p t op.Abort result x = refl
work_kept p t o result x = by_kept result (effect_on p t o x) x.work
