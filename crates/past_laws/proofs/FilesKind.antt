-- What a file is by both, with each record.
use Rattle.std.proofs.Common.{◌≡◌, ℕ, ◌==◌, ◌||◌, ◌&&◌, not, Bool, true, false, cond, List, [], ◌∷◌, ◌++◌, filter, map, Option, Some, None, refl, sym, ap, subst, ◌∙◌, ◌⊎◌, inl, inr}
use Rattle.std.specs.List.{find, list_any}
use Rattle.std.specs.Option.{is_none, option_map, option_or}
use Rattle.locus_ids.specs.declared.config.Config.{Config}
use Rattle.locus_ids.specs.declared.sites.Sites.{Sites}
use Rattle.locus_ids.specs.declared.ids.CallId.{CallId}
use Rattle.locus_ids.specs.declared.ids.FileId.{FileId}
use Rattle.locus_ids.specs.declared.ids.Kind.{Kind}
use Rattle.locus_ids.specs.declared.ids.Kind.TheVariants.{File, Dir}
use Rattle.locus_ids.specs.declared.ids.Stamp.{Stamp}
use Rattle.commit_graph.specs.Versions.{same_file}
use Rattle.trace_book.specs.Same.{same_call}
use Rattle.trace_book.specs.declared.call.Call.{Call}
use Rattle.trace_book.specs.declared.entry.Entry.{Entry}
use Rattle.trace_book.specs.declared.record.Record.{Record}
use Rattle.trace_book.specs.declared.record.Record.TheVariants as rec
use Rattle.tree_model.specs.declared.accepted.Waiting.{Waiting}
use Rattle.tree_model.specs.declared.instance.Instance.{Instance as TreeInstance}
use Rattle.tree_model.specs.Calls.{accepted_as, call_named}
use Rattle.tree_model.specs.Files.{committing, first_call, kind_made, kind_of_file, set_of_file, words_named}
use Rattle.tree_model.specs.Folds.{Trace}
use Rattle.tree_model.specs.Opening.{sites_made}
use Rattle.tree_model.specs.Packs.{no_sites, packs_of}
use Rattle.promises.specs.of_lawful_trace.Lawful.{MayCome}
use Rattle.promises.specs.of_lawful_trace.TreeRows.{MayCommit}
use Rattle.promises.specs.Past.{CallSoFar, Instance, Making, Past, first_or, making_of}
use Rattle.promises.specs.After.{after, is_id, with_making}
use Rattle.past_laws.specs.Agreement.{Agrees, waiting_as}
use Rattle.past_laws.specs.Firsts.{First, Unmade, Root, Called}
use Rattle.past_laws.specs.Made.{is_made, is_sound}
use Rattle.past_laws.proofs.Names.{call_eq, call_turned, false_true, file_eq, none_some, true_or_false}
use Rattle.past_laws.proofs.Changing.{Finds, any_finds, filter_same, only_one}
use Rattle.past_laws.proofs.CallsFields.{new_none}
use Rattle.past_laws.proofs.CallsUsers.{numbered}
use Rattle.past_laws.proofs.FilesFirst.{Committer, committer, files_still, has_writer, making_by, none_other}
use Rattle.past_laws.proofs.SitesSteps.{entry}

-- What a file is by words, and by the words of the trace.

abbrev kind_by : FileId → Option Call → Kind
kind_by f words = cond (f.ino == 1) Dir (kind_made words)

abbrev set_by : Config → FileId → Option Call → Sites
set_by c f words = cond (f.ino == 1) (packs_of c f.group) (sites_made (packs_of c f.group) words)

-- the making says so
pub record MakingIs (c : Config) (p : Past) (f : FileId) (words : Option Call) : Type 0 where
  pub kind : (making_of p f).kind ≡ kind_by f words
  pub set : (making_of p f).set ≡ set_by c f words

abbrev words_by : Config → Trace → FileId → Option Call
words_by c trace f = words_named trace (first_call c trace f)

making_now : (c : Config) (trace : Trace) (p : Past) (f : FileId) → Agrees c trace p → is_made p.files f ≡ true → MakingIs c p f (words_by c trace f)
making_now c trace p f a h = record { kind = a.trees.kind f h; set = a.trees.set f h }

-- of a root the words don't matter
root_is : (c : Config) (p : Past) (f : FileId) (old new : Option Call) → (f.ino == 1) ≡ true → MakingIs c p f old → MakingIs c p f new
root_is c p f old new e m = record {
  kind = m.kind ∙ (ap (λ b. cond b Dir (kind_made old)) e ∙ sym (ap (λ b. cond b Dir (kind_made new)) e));
  set = m.set ∙ (ap (λ b. cond b (packs_of c f.group) (sites_made (packs_of c f.group) old)) e ∙ sym (ap (λ b. cond b (packs_of c f.group) (sites_made (packs_of c f.group) new)) e));
}

-- where the makings stay
making_stays : (c : Config) (p q : Past) (f : FileId) (words : Option Call) → making_of q f ≡ making_of p f → MakingIs c p f words → MakingIs c q f words
making_stays c p q f words e m = record { kind = ap (λ (x : Making). x.kind) e ∙ m.kind; set = ap (λ (x : Making). x.set) e ∙ m.set }

-- Words of calls.

words_still : (r : Entry) (before : Trace) → ((id : CallId) → call_named (r ∷ before) id ≡ call_named before id) → (o : Option CallId) → words_named before o ≡ words_named (r ∷ before) o
words_still r before same None = refl
words_still r before same (Some id) = ap (option_map (λ (w : Waiting). w.words)) (sym (same id))

-- an accepted call keeps its words when another is accepted
accepted_words : (c : Config) (line site process : ℕ) (new : CallId) (words : Call) (before : Trace) (p : Past) → MayCome c before (rec.Accept site process new words) → Agrees c before p → (id : CallId) → list_any (is_id id) p.calls ≡ true
    → words_named before (Some id) ≡ words_named (entry line (rec.Accept site process new words) ∷ before) (Some id)
accepted_words c line site process new words before p may a id there = over (same_call new id) refl (any_finds (is_id id) p.calls there)
  where
    over : (b : Bool) → same_call new id ≡ b → Finds (is_id id) p.calls → option_map (λ (w : Waiting). w.words) (call_named before id) ≡ option_map (λ (w : Waiting). w.words) (cond (same_call new id) (Some (accepted_as before site process new words)) (call_named before id))
    over true e it = none_some (waiting_as it.one) (sym (new_none before site new a.calls.users (numbered c before site process new words may)) ∙ (ap (call_named before) (call_eq new id e) ∙ (sym (a.calls.named id) ∙ ap (option_map waiting_as) it.found)))
    over false e it = rw e refl

-- Records that make no file.

files_same : (p q : Past) (f : FileId) → q.files ≡ p.files → making_of q f ≡ making_of p f
files_same p q f e = ap (first_or (record { file = f; kind = File; set = no_sites }) (λ (m : Making). same_file m.file f)) e

still_is : (c : Config) (r : Entry) (before : Trace) (p q : Past) (f : FileId) → Agrees c before p → q.files ≡ p.files → first_call c (r ∷ before) f ≡ first_call c before f
    → ((id : CallId) → list_any (is_id id) p.calls ≡ true → words_named before (Some id) ≡ words_named (r ∷ before) (Some id)) → is_made q.files f ≡ true → MakingIs c q f (words_by c (r ∷ before) f)
still_is c r before p q f a files same words h = making_stays c p q f (words_by c (r ∷ before) f) (files_same p q f files) (over (a.firsts f))
  where
    made : is_made p.files f ≡ true
    made = ap (λ fs. is_made fs f) (sym files) ∙ h

    over : First c before p f → MakingIs c p f (words_by c (r ∷ before) f)
    over (Unmade m k) = false_true (sym m ∙ made)
    over (Root m e) = root_is c p f (words_by c before f) (words_by c (r ∷ before) f) e (making_now c before p f a made)
    over (Called id m k l) = subst (MakingIs c p f) (ap (words_named before) k ∙ (words id l ∙ ap (words_named (r ∷ before)) (sym (same ∙ k)))) (making_now c before p f a made)

-- Commits.

-- the makings in front are of another file
behind_others : (c : Config) (g f : FileId) (d : Making) (ks : List CallSoFar) (rest : List Making) → same_file g f ≡ false → first_or d (λ (m : Making). same_file m.file f) (map (making_by c g) ks ++ rest) ≡ first_or d (λ (m : Making). same_file m.file f) rest
behind_others c g f d [] rest e = refl
behind_others c g f d (k ∷ ks) rest e = rw e (behind_others c g f d ks rest e)

commit_stays : (c : Config) (p : Past) (g f : FileId) (site : ℕ) (d : Making) → is_made p.files f ≡ true → first_or d (λ (m : Making). same_file m.file f) (with_making c g site p) ≡ first_or d (λ (m : Making). same_file m.file f) p.files
commit_stays c p g f site d made = over (list_any (λ (m : Making). same_file m.file g) p.files) refl (true_or_false (same_file g f))
  where
    over : (b : Bool) → list_any (λ (m : Making). same_file m.file g) p.files ≡ b → (same_file g f ≡ true) ⊎ (same_file g f ≡ false)
        → first_or d (λ (m : Making). same_file m.file f) (cond b p.files (map (making_by c g) (filter (has_writer p g site) p.calls) ++ p.files)) ≡ first_or d (λ (m : Making). same_file m.file f) p.files
    over true e s = refl
    over false e (inl s) = false_true (sym e ∙ subst (λ i. is_made p.files i ≡ true) (sym (file_eq g f s)) made)
    over false e (inr s) = behind_others c g f d (filter (has_writer p g site) p.calls) p.files s

-- the call that commits a file first
pub record Maker (c : Config) (before : Trace) (p : Past) (g : FileId) (site : ℕ) (id : CallId) : Type 0 where
  pub k : CallSoFar
  pub found : find (is_id id) p.calls ≡ Some k
  pub only : filter (has_writer p g site) p.calls ≡ k ∷ []
  pub named : call_named before id ≡ Some (waiting_as k)

pub maker_of : (c : Config) (before : Trace) (p : Past) (g : FileId) (site : ℕ) (y : TreeInstance) → Agrees c before p → Committer c before p g site y → Maker c before p g site y.grant.call
maker_of c before p g site y a it = over (any_finds (is_id it.one.grant.call) p.calls it.called)
  where
    alone : (b : Bool) → (b || false) ≡ b
    alone true = refl
    alone false = refl

    asks : (k : CallSoFar) → has_writer p g site k ≡ is_id it.one.grant.call k
    asks k = ap (list_any (λ (x : Instance). same_call x.grant.call k.id)) it.only ∙ (alone (same_call it.one.grant.call k.id) ∙ call_turned it.one.grant.call k.id)

    over : Finds (is_id it.one.grant.call) p.calls → Maker c before p g site y.grant.call
    over found = record {
      k = found.one;
      found = ap (λ (z : TreeInstance). find (is_id z.grant.call) p.calls) (sym it.is) ∙ found.found;
      only = filter_same (has_writer p g site) (is_id it.one.grant.call) asks p.calls ∙ only_one (is_id it.one.grant.call) p.calls found.one (a.calls.once it.one.grant.call) found.found;
      named = ap (λ (z : TreeInstance). call_named before z.grant.call) (sym it.is) ∙ (sym (a.calls.named it.one.grant.call) ∙ ap (option_map waiting_as) found.found);
    }

-- a file that isn't made, and that an open instance writes, is no root
writes_no_root : (files : List Making) (x : Instance) (f : FileId) → x.grant.file ≡ f → is_made files f ≡ false → is_sound files x ≡ true → (f.ino == 1) ≡ false
writes_no_root files x f e none h = over (is_none x.work.committed) (x.grant.file.ino == 1) (is_made files x.grant.file) refl (ap (is_made files) e ∙ none) h
  where
    over : (a b m : Bool) → (x.grant.file.ino == 1) ≡ b → m ≡ false → ((a && not b) || m) ≡ true → (f.ino == 1) ≡ false
    over a true true k l h = false_true (sym l)
    over true true false k l h = false_true h
    over false true false k l h = false_true h
    over a false m k l h = ap (λ (g : FileId). g.ino == 1) (sym e) ∙ k

commit_is : (c : Config) (line : ℕ) (g : FileId) (site : ℕ) (stamp : Stamp) (parents : List Stamp) (content : List ℕ) (before : Trace) (p : Past) → MayCommit c before g site stamp parents content → Agrees c before p → (f : FileId) → is_made (with_making c g site p) f ≡ true
    → MakingIs c (after c (rec.Commit g site stamp parents content) p) f (words_by c (entry line (rec.Commit g site stamp parents content) ∷ before) f)
commit_is c line g site stamp parents content before p may a f made = over (a.firsts f)
  where
    q : Past
    q = after c (rec.Commit g site stamp parents content) p

    r : Entry
    r = entry line (rec.Commit g site stamp parents content)

    stays : is_made p.files f ≡ true → MakingIs c q f (words_by c before f)
    stays h = making_stays c p q f (words_by c before f) (commit_stays c p g f site (record { file = f; kind = File; set = no_sites }) h) (making_now c before p f a h)

    next : Option CallId
    next = cond (same_file g f) (option_map (λ (x : TreeInstance). x.grant.call) (committing c before f site)) None

    new : (same_file g f ≡ true) → is_made p.files f ≡ false → first_call c before f ≡ None → (it : Committer c before p g site may.instance) → Maker c before p g site may.instance.grant.call → MakingIs c q f (words_by c (r ∷ before) f)
    new e none first it m = record {
      kind = ap (λ (x : Making). x.kind) making ∙ (sym (ap (λ b. cond b Dir (kind_made (Some m.k.words))) no_root) ∙ ap (kind_by f) (sym words));
      set = ap (λ (x : Making). x.set) making ∙ (ap (λ (h : FileId). sites_made (packs_of c h.group) (Some m.k.words)) (file_eq g f e)
          ∙ (sym (ap (λ b. cond b (packs_of c f.group) (sites_made (packs_of c f.group) (Some m.k.words))) no_root) ∙ ap (set_by c f) (sym words)));
    }
      where
        words : words_by c (r ∷ before) f ≡ Some m.k.words
        words = ap (words_named (r ∷ before)) (ap (λ o. option_or o next) first
            ∙ (ap (λ b. cond b (option_map (λ (x : TreeInstance). x.grant.call) (committing c before f site)) None) e
            ∙ ap (option_map (λ (x : TreeInstance). x.grant.call)) (subst (λ h. committing c before h site ≡ Some may.instance) (file_eq g f e) it.committing)))
            ∙ ap (option_map (λ (w : Waiting). w.words)) m.named

        files : with_making c g site p ≡ making_by c g m.k ∷ p.files
        files = ap (λ b. cond b p.files (map (making_by c g) (filter (has_writer p g site) p.calls) ++ p.files)) (ap (is_made p.files) (file_eq g f e) ∙ none) ∙ ap (λ ks. map (making_by c g) ks ++ p.files) m.only

        making : making_of q f ≡ making_by c g m.k
        making = ap (first_or (record { file = f; kind = File; set = no_sites }) (λ (x : Making). same_file x.file f)) files
            ∙ ap (λ b. cond b (making_by c g m.k) (first_or (record { file = f; kind = File; set = no_sites }) (λ (x : Making). same_file x.file f) p.files)) e

        no_root : (f.ino == 1) ≡ false
        no_root = writes_no_root p.files it.one f (it.of ∙ file_eq g f e) none it.sound

    over : First c before p f → MakingIs c q f (words_by c (r ∷ before) f)
    over (Root h e) = root_is c q f (words_by c before f) (words_by c (r ∷ before) f) e (stays h)
    over (Called id h k l) = subst (MakingIs c q f) (ap (words_named before) k ∙ ap (words_named (r ∷ before)) (sym (ap (λ o. option_or o next) k))) (stays h)
    over (Unmade h k) = by_file (true_or_false (same_file g f))
      where
        by_file : (same_file g f ≡ true) ⊎ (same_file g f ≡ false) → MakingIs c q f (words_by c (r ∷ before) f)
        by_file (inl e) = new e h k (committer c before p g site stamp parents content may a) (maker_of c before p g site may.instance a (committer c before p g site stamp parents content may a))
        by_file (inr e) = false_true (sym (none_other c p g f site e h) ∙ made)

-- Each record.

files_step : (c : Config) (line : ℕ) (what : Record) (before : Trace) (p : Past) → MayCome c before what → Agrees c before p → (f : FileId) → is_made (after c what p).files f ≡ true → MakingIs c (after c what p) f (words_by c (entry line what ∷ before) f)
files_step c line (rec.Commit g site stamp parents content) before p may a f made = commit_is c line g site stamp parents content before p may a f made
files_step c line (rec.Accept site process new words) before p may a f made = still_is c (entry line (rec.Accept site process new words)) before p (after c (rec.Accept site process new words) p) f a refl refl (accepted_words c line site process new words before p may a) made
files_step c line what before p may a f made = still_is c (entry line what) before p (after c what p) f a (files_still c what p refl) refl (λ id there. refl) made

pub kind_step : (c : Config) (line : ℕ) (what : Record) (before : Trace) (p : Past) → MayCome c before what → Agrees c before p → (f : FileId) → is_made (after c what p).files f ≡ true → (making_of (after c what p) f).kind ≡ kind_of_file c (entry line what ∷ before) f
kind_step c line what before p may a f made = (files_step c line what before p may a f made).kind

pub set_step : (c : Config) (line : ℕ) (what : Record) (before : Trace) (p : Past) → MayCome c before what → Agrees c before p → (f : FileId) → is_made (after c what p).files f ≡ true → (making_of (after c what p) f).set ≡ set_of_file c (entry line what ∷ before) f
set_step c line what before p may a f made = (files_step c line what before p may a f made).set
