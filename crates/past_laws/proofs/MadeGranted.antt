-- What is granted is a new file that is no root, or a file that is made.
use Rattle.std.proofs.Common.{◌≡◌, ℕ, ◌==◌, ◌||◌, nat_lt, not, Bool, true, false, List, [], Option, Some, None, refl, sym, ap, ◌∙◌, arith}
use Rattle.std.proofs.lemmas.Bool.Decides.{nat_tests}
use Rattle.std.specs.Option.{is_none, option_or}
use Rattle.locus_ids.specs.declared.config.Config.{Config}
use Rattle.locus_ids.specs.declared.ids.CallId.{CallId}
use Rattle.locus_ids.specs.declared.ids.EpochId.{EpochId}
use Rattle.locus_ids.specs.declared.ids.FileId.{FileId}
use Rattle.locus_ids.specs.declared.ids.Mode.{Mode}
use Rattle.locus_ids.specs.declared.ids.Mode.TheVariants as mode
use Rattle.locus_ids.specs.declared.ids.Serial.{Serial}
use Rattle.locus_ids.specs.declared.ids.Stamp.{Stamp}
use Rattle.locus_ids.specs.declared.refusal.Refusal.{Refusal}
use Rattle.commit_graph.specs.declared.history.Version.{Version}
use Rattle.commit_graph.specs.Grants.{Opener, excluder, grant_refusal}
use Rattle.tree_model.specs.Folds.{Trace}
use Rattle.tree_model.specs.Histories.{history}
use Rattle.tree_model.specs.Opening.{is_given_by, is_new_file, is_placed, is_site, making_site, open_refusal, place_refusal}
use Rattle.tree_model.specs.State.{TreeState, is_granted, is_make, kept_of, openers}
use Rattle.tree_model.specs.Tree.{tree_of}
use Rattle.promises.specs.of_lawful_trace.TreeRows.{MayGrant}
use Rattle.promises.specs.Past.{Past}
use Rattle.past_laws.specs.Agreement.{Agrees}
use Rattle.past_laws.specs.Made.{is_made}
use Rattle.past_laws.proofs.Names.{both_parts, false_true}
use Rattle.past_laws.proofs.CallsServed.{kept_made, kept_same}

-- Without a kept version all but a make is refused.

first_refused : (o other : Option Refusal) → is_none o ≡ false → is_none (option_or o other) ≡ false
first_refused None other h = false_true (sym h)
first_refused (Some r) other h = refl

none_kept : (m : Mode) → is_make m ≡ false → (os : List Opener) → is_none (grant_refusal m os []) ≡ false
none_kept mode.Make h os = false_true (sym h)
none_kept mode.Read h os = over (excluder mode.Read os) refl
  where
    over : (o : Option Opener) → excluder mode.Read os ≡ o → is_none (grant_refusal mode.Read os []) ≡ false
    over None e = rw e refl
    over (Some x) e = rw e refl
none_kept mode.Write h os = over (excluder mode.Write os) refl
  where
    over : (o : Option Opener) → excluder mode.Write os ≡ o → is_none (grant_refusal mode.Write os []) ≡ false
    over None e = rw e refl
    over (Some x) e = rw e refl
none_kept mode.Resolve h os = over (excluder mode.Resolve os) refl
  where
    over : (o : Option Opener) → excluder mode.Resolve os ≡ o → is_none (grant_refusal mode.Resolve os []) ≡ false
    over None e = rw e refl
    over (Some x) e = rw e refl
none_kept mode.Mend h os = over (excluder mode.Mend os) refl
  where
    over : (o : Option Opener) → excluder mode.Mend os ≡ o → is_none (grant_refusal mode.Mend os []) ≡ false
    over None e = rw e refl
    over (Some x) e = rw e refl

refused_so : (h : List Version) (t : TreeState) (m : Mode) (id : CallId) (f : FileId) → is_make m ≡ false → is_none (option_or (grant_refusal m (openers t f) (kept_of h t f)) (place_refusal h t m id f)) ≡ true → kept_of h t f ≡ [] → ⊥
refused_so h t m id f other none e = false_true (sym (first_refused (grant_refusal m (openers t f) (kept_of h t f)) (place_refusal h t m id f) (ap (λ ss. is_none (grant_refusal m (openers t f) ss)) e ∙ none_kept m other (openers t f))) ∙ none)

-- A make is of a number that is no root's.

no_root : (t : TreeState) (id : CallId) (f : FileId) (ss : ℕ) → is_new_file t id f ss ≡ true → not (f.ino == 1) ≡ true
no_root t id f ss h =
    let parts = both_parts (is_site (making_site t id) ss) _ h in
    let given = both_parts (is_given_by ss f.ino) _ parts.1 in
    let bounds = both_parts _ _ given.0 in
    above (both_parts _ _ bounds.1).1
  where
    above : nat_lt 1 f.ino ≡ true → not (f.ino == 1) ≡ true
    above k = grind (arith, nat_tests)

-- What is granted.

pub refusal_none : (c : Config) (before : Trace) (p : Past) (e : EpochId) (id : CallId) (request : ℕ) (i : Serial) (m : Mode) (f : FileId) (stamp : Option Stamp) (ss : ℕ) → MayGrant c before e id request i m f stamp ss
    → (is_none (open_refusal (history c before) (tree_of c e f.group before) m id f) ≡ true) × (is_placed (history c before) (tree_of c e f.group before) id m f stamp ss ≡ true)
refusal_none c before p e id request i m f stamp ss may =
    let parts = both_parts (is_none (open_refusal (history c before) (tree_of c e f.group before) m id f)) _ (both_parts (tree_of c e f.group before).started _ may.gives).1 in
    (parts.0, (both_parts (not (is_granted (tree_of c e f.group before) i)) _ (both_parts (i.us == id.site) _ parts.1).1).1)

pub granted_made : (c : Config) (before : Trace) (p : Past) (e : EpochId) (id : CallId) (m : Mode) (f : FileId) → Agrees c before p → is_make m ≡ false → is_none (open_refusal (history c before) (tree_of c e f.group before) m id f) ≡ true → is_made p.files f ≡ true
granted_made c before p e id m f a other none = over m other none
  where
    made : (kept_of (history c before) (tree_of c e f.group before) f ≡ [] → ⊥) → is_made p.files f ≡ true
    made some = kept_made c before p a e f (λ h. some (sym (kept_same c before p a e f) ∙ h))

    over : (n : Mode) → is_make n ≡ false → is_none (open_refusal (history c before) (tree_of c e f.group before) n id f) ≡ true → is_made p.files f ≡ true
    over mode.Make l h = false_true (sym l)
    over mode.Read l h = made (refused_so (history c before) (tree_of c e f.group before) mode.Read id f refl h)
    over mode.Write l h = made (refused_so (history c before) (tree_of c e f.group before) mode.Write id f refl h)
    over mode.Resolve l h = made (refused_so (history c before) (tree_of c e f.group before) mode.Resolve id f refl h)
    over mode.Mend l h = made (refused_so (history c before) (tree_of c e f.group before) mode.Mend id f refl h)

pub granted_sound : (c : Config) (before : Trace) (p : Past) (e : EpochId) (id : CallId) (request : ℕ) (i : Serial) (m : Mode) (f : FileId) (stamp : Option Stamp) (ss : ℕ) → MayGrant c before e id request i m f stamp ss → Agrees c before p → (not (f.ino == 1) || is_made p.files f) ≡ true
granted_sound c before p e id request i m f stamp ss may a = over m (refusal_none c before p e id request i m f stamp ss may)
  where
    later : (x y : Bool) → y ≡ true → (x || y) ≡ true
    later true y h = refl
    later false y h = h

    new : (x y : Bool) → x ≡ true → (x || y) ≡ true
    new true y h = refl
    new false y h = false_true h

    over : (n : Mode) → (is_none (open_refusal (history c before) (tree_of c e f.group before) n id f) ≡ true) × (is_placed (history c before) (tree_of c e f.group before) id n f stamp ss ≡ true) → (not (f.ino == 1) || is_made p.files f) ≡ true
    over mode.Make h = new (not (f.ino == 1)) (is_made p.files f) (no_root (tree_of c e f.group before) id f ss (both_parts (is_new_file (tree_of c e f.group before) id f ss) _ h.1).0)
    over mode.Read h = later (not (f.ino == 1)) _ (granted_made c before p e id mode.Read f a refl h.0)
    over mode.Write h = later (not (f.ino == 1)) _ (granted_made c before p e id mode.Write f a refl h.0)
    over mode.Resolve h = later (not (f.ino == 1)) _ (granted_made c before p e id mode.Resolve f a refl h.0)
    over mode.Mend h = later (not (f.ino == 1)) _ (granted_made c before p e id mode.Mend f a refl h.0)
