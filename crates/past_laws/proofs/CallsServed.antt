-- The kept versions of a file, and what a look is answered, by both.
use Rattle.std.proofs.Common.{◌≡◌, ℕ, ◌==◌, Bool, true, false, cond, ◌&&◌, List, [], ◌∷◌, map, filter, refl, sym, ◌∙◌, ap, subst}
use Rattle.locus_ids.specs.declared.config.Config.{Config}
use Rattle.locus_ids.specs.declared.ids.CallId.{CallId}
use Rattle.locus_ids.specs.declared.ids.EpochId.{EpochId}
use Rattle.locus_ids.specs.declared.ids.FileId.{FileId}
use Rattle.locus_ids.specs.declared.ids.Stamp.{Stamp}
use Rattle.locus_ids.specs.declared.ids.Brought.{Brought}
use Rattle.locus_ids.specs.declared.ids.Kind.{Kind}
use Rattle.commit_graph.specs.Versions.{same_file, content_of, kept}
use Rattle.commit_graph.specs.declared.history.Version.{Version}
use Rattle.trace_book.specs.declared.operation.What.{What}
use Rattle.trace_book.specs.declared.operation.What.TheVariants as what
use Rattle.trace_book.specs.declared.operation.Served.{Served}
use Rattle.trace_book.specs.declared.operation.Served.TheVariants as served
use Rattle.trace_book.specs.declared.record.Record.TheVariants as says
use Rattle.tree_model.specs.Files.{kind_of_file}
use Rattle.tree_model.specs.Folds.{Trace}
use Rattle.tree_model.specs.Given.{served_by}
use Rattle.tree_model.specs.Histories.{history}
use Rattle.tree_model.specs.Same.{is_served}
use Rattle.tree_model.specs.State.{stamps_of}
use Rattle.tree_model.specs.Tree.{tree_of, kept_in as kept_by}
use Rattle.promises.specs.of_lawful_trace.Lawful.{MayCome}
use Rattle.promises.specs.of_lawful_trace.Progress.{found_in, look_answer as answer_by}
use Rattle.promises.specs.Past.{Past, Epoch, Copy, Making, epoch_at, unformed, candidates, kept_in}
use Rattle.promises.specs.After.{is_epoch, look_answer}
use Rattle.past_laws.specs.Agreement.{Agrees}
use Rattle.past_laws.specs.Made.{is_made, are_made}
use Rattle.past_laws.proofs.Names.{false_true, both_parts, file_eq}
use Rattle.past_laws.proofs.Alls.{all_first_or}

-- ---- kept versions ----

abbrev as_brought : Copy → Brought
as_brought v = record { ino = v.file.ino; stamp = v.stamp }

pub stamps_same : (f : FileId) (vs : List Copy) → stamps_of (map as_brought (filter (λ (v : Copy). v.file.group == f.group) vs)) f.ino ≡ map (λ (v : Copy). v.stamp) (filter (λ (v : Copy). same_file v.file f) vs)
stamps_same f [] = refl
stamps_same f (v ∷ vs) = over (v.file.group == f.group) (v.file.ino == f.ino) refl (stamps_same f vs)
  where
    over : (a b : Bool) → (v.file.ino == f.ino) ≡ b → stamps_of (map as_brought (filter (λ (u : Copy). u.file.group == f.group) vs)) f.ino ≡ map (λ (u : Copy). u.stamp) (filter (λ (u : Copy). same_file u.file f) vs)
        → stamps_of (map as_brought (cond a (v ∷ filter (λ (u : Copy). u.file.group == f.group) vs) (filter (λ (u : Copy). u.file.group == f.group) vs))) f.ino ≡ map (λ (u : Copy). u.stamp) (cond (a && b) (v ∷ filter (λ (u : Copy). same_file u.file f) vs) (filter (λ (u : Copy). same_file u.file f) vs))
    over true true e later = rw e (ap (λ (ss : List Stamp). v.stamp ∷ ss) later)
    over true false e later = rw e later
    over false b e later = later

pub candidates_same : (c : Config) (before : Trace) (p : Past) → Agrees c before p → (e : EpochId) (f : FileId) → candidates (epoch_at p e) f ≡ stamps_of (tree_of c e f.group before).known f.ino
candidates_same c before p a e f = sym (stamps_same f (epoch_at p e).known) ∙ ap (λ (bs : List Brought). stamps_of bs f.ino) (a.trees.known e f.group)

pub kept_same : (c : Config) (before : Trace) (p : Past) → Agrees c before p → (e : EpochId) (f : FileId) → kept_in p (epoch_at p e) f ≡ kept_by c before e f
kept_same c before p a e f = ap (λ (h : List Version). kept h f (candidates (epoch_at p e) f)) a.epochs.history ∙ ap (kept (history c before) f) (candidates_same c before p a e f)

-- ---- files that are made ----

-- one of the versions is of the file, or none is
some_known : (files : List Making) (f : FileId) (vs : List Copy) → are_made files vs ≡ true → (map (λ (v : Copy). v.stamp) (filter (λ (v : Copy). same_file v.file f) vs) ≡ [] → ⊥) → is_made files f ≡ true
some_known files f [] h k = absurd (k refl)
some_known files f (v ∷ vs) h k = over (λ m l. some_known files f vs m l) (same_file v.file f) refl (both_parts (is_made files v.file) (are_made files vs) h) k
  where
    over : (are_made files vs ≡ true → (map (λ (u : Copy). u.stamp) (filter (λ (u : Copy). same_file u.file f) vs) ≡ [] → ⊥) → is_made files f ≡ true) → (b : Bool) → same_file v.file f ≡ b → (is_made files v.file ≡ true) × (are_made files vs ≡ true)
        → (map (λ (u : Copy). u.stamp) (cond b (v ∷ filter (λ (u : Copy). same_file u.file f) vs) (filter (λ (u : Copy). same_file u.file f) vs)) ≡ [] → ⊥) → is_made files f ≡ true
    over later true e m l = subst (λ (g : FileId). is_made files g ≡ true) (file_eq v.file f e) m.0
    over later false e m l = later m.1 l

-- of a file with a kept version the making is there
pub kept_made : (c : Config) (before : Trace) (p : Past) → Agrees c before p → (e : EpochId) (f : FileId) → (kept_in p (epoch_at p e) f ≡ [] → ⊥) → is_made p.files f ≡ true
kept_made c before p a e f some = some_known p.files f (epoch_at p e).known known (λ h. some (ap (kept p.history f) h))
  where
    known : are_made p.files (epoch_at p e).known ≡ true
    known = all_first_or (λ (t : Epoch). are_made p.files t.known) (is_epoch e) (unformed e) p.epochs refl a.made.known

-- ---- looks ----

-- what is served is a kept version
served_kept : (w : What) (ss : List Stamp) (stamp : Stamp) → is_served (served_by w ss) (served.At stamp) ≡ true → ss ≡ [] → ⊥
served_kept w [] stamp h e = none w h
  where
    none : (w : What) → is_served (served_by w []) (served.At stamp) ≡ true → ⊥
    none (what.Name component) h = false_true h
    none what.List h = false_true h
    none what.Stat h = false_true h
    none (what.Whole asked) h = false_true h
served_kept w (s ∷ ss) stamp h e = cc

pub look_same : (c : Config) (before : Trace) (p : Past) (e : EpochId) (id : CallId) (request : ℕ) (f : FileId) (w : What) (result : Served) → MayCome c before (says.Look e id request f w result) → Agrees c before p → look_answer p f w result ≡ answer_by c before f w result
look_same c before p e id request f w (served.No why) may a = refl
look_same c before p e id request f w (served.At stamp) may a = ap (λ (k : Kind). found_in k stamp w (content_of p.history f stamp)) (a.trees.kind f made) ∙ ap (λ (h : List Version). found_in (kind_of_file c before f) stamp w (content_of h f stamp)) a.epochs.history
  where
    made : is_made p.files f ≡ true
    made = kept_made c before p a e f (λ h. served_kept w (kept_by c before e f) stamp (both_parts (tree_of c e f.group before).started (is_served (served_by w (kept_by c before e f)) (served.At stamp)) may.gives).1 (sym (kept_same c before p a e f) ∙ h))
