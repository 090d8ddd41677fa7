-- How the making of each file stands, with each record.
use Rattle.std.proofs.Common.{◌≡◌, ℕ, ◌==◌, not, Bool, true, false, cond, List, [], ◌∷◌, ◌++◌, filter, fold, map, Option, Some, None, refl, sym, ap, subst, ◌∙◌, arith}
use Rattle.std.specs.List.{find, list_any}
use Rattle.std.specs.Option.{option_map, option_or}
use Rattle.locus_ids.specs.declared.config.Config.{Config}
use Rattle.locus_ids.specs.declared.ids.FileId.{FileId}
use Rattle.locus_ids.specs.declared.ids.Stamp.{Stamp}
use Rattle.commit_graph.specs.Grants.{is_read}
use Rattle.commit_graph.specs.Versions.{same_file}
use Rattle.trace_book.specs.Same.{same_call}
use Rattle.trace_book.specs.declared.reply.Reply.{Reply}
use Rattle.trace_book.specs.declared.record.Record.{Record}
use Rattle.trace_book.specs.declared.record.Record.TheVariants as rec
use Rattle.locus_ids.specs.declared.ids.CallId.{CallId}
use Rattle.locus_ids.specs.declared.ids.Kind.TheVariants.{Dir}
use Rattle.call_rules.specs.Walks.{root_of}
use Rattle.std.proofs.lemmas.Bool.Decides.{nat_tests}
use Rattle.tree_model.specs.declared.instance.Instance.{Instance as TreeInstance}
use Rattle.tree_model.specs.Epochs.{is_in}
use Rattle.tree_model.specs.Files.{committing, committing_in, first_call, kind_made}
use Rattle.tree_model.specs.Folds.{Trace}
use Rattle.tree_model.specs.Histories.{history}
use Rattle.tree_model.specs.Opening.{sites_made}
use Rattle.tree_model.specs.Packs.{packs_of}
use Rattle.tree_model.specs.State as state
use Rattle.tree_model.specs.Tree.{tree_of}
use Rattle.promises.specs.of_lawful_trace.Lawful.{MayCome}
use Rattle.promises.specs.of_lawful_trace.TreeRows.{MayCommit, is_writing as writes}
use Rattle.promises.specs.Past.{CallSoFar, Epoch, Instance, Making, Past, epoch_at, groups, is_named, is_writer, nothing_yet}
use Rattle.promises.specs.After.{after, close_answer, is_ender, is_epoch, is_home_of, is_id, replied_to, with_making, writers_of}
use Rattle.promises.specs.Rows.{is_writing}
use Rattle.past_laws.specs.Agreement.{Agrees, instance_of}
use Rattle.past_laws.specs.Firsts.{First, Unmade, Root, Called}
use Rattle.past_laws.specs.Made.{is_called, is_made, is_sound}
use Rattle.past_laws.specs.Packed.{is_seated}
use Rattle.past_laws.proofs.Names.{both, both_parts, epoch_turned, false_true, file_eq, number_own}
use Rattle.past_laws.proofs.Changing.{filter_filtered, filter_same, found_passes, only_one}
use Rattle.past_laws.proofs.Alls.{all_found}
use Rattle.past_laws.proofs.Made.{answered_files, committed_made, formed_files}
use Rattle.past_laws.proofs.MadeFinds.{makings_more, opened_at}
use Rattle.past_laws.proofs.MadeKnown.{filter_finds, home_found}
use Rattle.past_laws.proofs.RowsCommit.{IsOne, one_image}
use Rattle.past_laws.proofs.SitesSteps.{entry}
use Rattle.past_laws.proofs.TreesFolds.{group_is}
use Rattle.past_laws.proofs.TreesNamed.{calls_grow}
use Rattle.past_laws.proofs.TreesPages.{tree_is}
use Rattle.past_laws.proofs.TreesWorking.{opened_filter}

-- Files are made by commits alone.

abbrev pub is_commit : Record → Bool
is_commit (rec.Commit f site stamp parents content) = true
is_commit _ = false

replied_files : (r : Reply) (ks : List CallSoFar) (p : Past) → (fold (λ old k. replied_to r k old) p ks).files ≡ p.files
replied_files r [] p = refl
replied_files r (k ∷ ks) p = replied_files r ks (replied_to r k p)

pub files_still : (c : Config) (what : Record) (p : Past) → is_commit what ≡ false → (after c what p).files ≡ p.files
files_still c (rec.Join site e members) p h = formed_files e members p
files_still c (rec.Release e i f stamp) p h = answered_files (λ x. is_ender (epoch_at p e) i) (close_answer stamp) (filter (is_named i) (epoch_at p e).opened) p
files_still c (rec.Answer site process id r) p h = replied_files r (filter (is_id id) p.calls) p
files_still c (rec.Commit f site stamp parents content) p h = false_true (sym h)
files_still c what p h = refl

-- The open instance that commits.

pub record Committer (c : Config) (before : Trace) (p : Past) (f : FileId) (site : ℕ) (y : TreeInstance) : Type 0 where
  pub one : Instance
  -- it is the only writer of the file there
  pub only : writers_of p f site ≡ one ∷ []
  pub is : instance_of one ≡ y
  pub of : one.grant.file ≡ f
  pub called : is_called p.calls one ≡ true
  pub sound : is_sound p.files one ≡ true
  pub seated : is_seated c p.calls p.files one ≡ true
  pub at : one.grant.ss ≡ site
  -- by the trees too
  pub committing : committing c before f site ≡ Some y

-- what is found of the only one that a weaker test leaves
pub find_strict : {X : Type 0} (r w : X → Bool) → ((x : X) → r x ≡ true → w x ≡ true) → (xs : List X) (y : X) → filter w xs ≡ y ∷ [] → r y ≡ true → find r xs ≡ Some y
find_strict r w weaker [] y e h = absurd (cc)
find_strict {X} r w weaker (x ∷ xs) y e h = over (λ k. find_strict r w weaker xs y k h) (w x) (r x) refl refl
  where
    head : (a b : X) (ones others : List X) → a ∷ ones ≡ b ∷ others → a ≡ b
    head a b ones others k = cc

    over : (filter w xs ≡ y ∷ [] → find r xs ≡ Some y) → (a b : Bool) → w x ≡ a → r x ≡ b → find r (x ∷ xs) ≡ Some y
    over later true true k l = rw l (ap (λ z. Some z) (head x y (filter w xs) [] (rw k at e)))
    over later true false k l = false_true (sym l ∙ subst (λ z. r z ≡ true) (sym (head x y (filter w xs) [] (rw k at e))) h)
    over later false true k l = false_true (sym k ∙ weaker x l)
    over later false false k l = rw l (later (rw k at e))

writer_writes : (f : FileId) (site : ℕ) (x : Instance) → is_writer f site x ≡ true → is_writing f x ≡ true
writer_writes f site x h =
    let parts = both_parts (same_file x.grant.file f) _ h in
    both (same_file x.grant.file f) _ parts.0 (both_parts (x.grant.ss == site) _ parts.1).1

tree_writes : (f : FileId) (site : ℕ) (x : TreeInstance) → state.is_writer f site x ≡ true → writes f x ≡ true
tree_writes f site x h =
    let parts = both_parts (same_file x.grant.file f) _ h in
    both (same_file x.grant.file f) _ parts.0 (both_parts (x.grant.ss == site) _ parts.1).1

writing_writer : (f : FileId) (site : ℕ) (x : TreeInstance) → writes f x ≡ true → x.grant.ss ≡ site → state.is_writer f site x ≡ true
writing_writer f site x h e =
    let parts = both_parts (same_file x.grant.file f) (not (is_read x.grant.mode)) h in
    both (same_file x.grant.file f) _ parts.0 (both (x.grant.ss == site) _ (ap (λ n. n == site) e ∙ number_own site) parts.1)

pub committer : (c : Config) (before : Trace) (p : Past) (f : FileId) (site : ℕ) (stamp : Stamp) (parents : List Stamp) (content : List ℕ) (may : MayCommit c before f site stamp parents content) → Agrees c before p → Committer c before p f site may.instance
committer c before p f site stamp parents content may a = over (one_image instance_of (filter (is_writing f) (epoch_at p may.epoch).opened) may.instance
    (sym (opened_filter (history c before) (tree_of c may.epoch f.group before) p (epoch_at p may.epoch) (tree_is c before p a may.epoch f.group) (writes f) here) ∙ may.one))
  where
    here : (x : Instance) → writes f (instance_of x) ≡ true → (x.grant.file.group == (tree_of c may.epoch f.group before).group) ≡ true
    here x h =
        let own = both_parts (same_file x.grant.file f) (not (is_read x.grant.mode)) h in
        ap (λ n. x.grant.file.group == n) (group_is c may.epoch f.group before) ∙ (both_parts (x.grant.file.group == f.group) (x.grant.file.ino == f.ino) own.0).0

    passes : writes f may.instance ≡ true
    passes = found_passes (writes f) (tree_of c may.epoch f.group before).instances may.instance (filter_finds (writes f) (tree_of c may.epoch f.group before).instances may.instance [] may.one)

    writer : state.is_writer f site may.instance ≡ true
    writer = writing_writer f site may.instance passes may.at

    home : filter (is_home_of p site) p.epochs ≡ epoch_at p may.epoch ∷ []
    home = filter_same (is_home_of p site) (is_epoch may.epoch) (λ t. ap (λ o. is_in o t.id) (a.sites.epoch site ∙ may.inside) ∙ epoch_turned may.epoch t.id) p.epochs
        ∙ only_one (is_epoch may.epoch) p.epochs (epoch_at p may.epoch) (a.epochs.once may.epoch) found
      where
        there : ((epoch_at p may.epoch).id ≡ may.epoch) × (find (is_epoch (epoch_at p may.epoch).id) p.epochs ≡ Some (epoch_at p may.epoch))
        there = home_found p may.epoch (a.epochs.inside site may.epoch may.inside)

        found : find (is_epoch may.epoch) p.epochs ≡ Some (epoch_at p may.epoch)
        found = ap (λ i. find (is_epoch i) p.epochs) (sym there.0) ∙ there.1

    empty_end : (xs : List Instance) → xs ++ [] ≡ xs
    empty_end [] = refl
    empty_end (x ∷ xs) = ap (λ ys. x ∷ ys) (empty_end xs)

    over : IsOne instance_of (filter (is_writing f) (epoch_at p may.epoch).opened) may.instance → Committer c before p f site may.instance
    over it =
        let writes_it = subst (λ (y : TreeInstance). state.is_writer f site y ≡ true) (sym it.is) writer in
        let found = filter_finds (is_writing f) (epoch_at p may.epoch).opened it.one [] it.only in
        record {
          one = it.one;
          only = ap (fold (λ old (t : Epoch). filter (is_writer f site) t.opened ++ old) []) home ∙ (empty_end (filter (is_writer f site) (epoch_at p may.epoch).opened)
              ∙ (sym (filter_filtered (is_writer f site) (is_writing f) (writer_writes f site) (epoch_at p may.epoch).opened) ∙ (ap (filter (is_writer f site)) it.only ∙ kept it.one writes_it)));
          is = it.is;
          of = file_eq it.one.grant.file f (both_parts (same_file it.one.grant.file f) _ writes_it).0;
          called = all_found (is_called p.calls) (is_writing f) (epoch_at p may.epoch).opened it.one found (opened_at p may.epoch (is_called p.calls) a.made.called);
          sound = all_found (is_sound p.files) (is_writing f) (epoch_at p may.epoch).opened it.one found (opened_at p may.epoch (is_sound p.files) a.made.opened);
          seated = all_found (is_seated c p.calls p.files) (is_writing f) (epoch_at p may.epoch).opened it.one found (opened_at p may.epoch (is_seated c p.calls p.files) a.packed.opened);
          at = ap (λ (y : TreeInstance). y.grant.ss) it.is ∙ may.at;
          committing = ap (committing_in c before f site) may.inside ∙ find_strict (state.is_writer f site) (writes f) (tree_writes f site) (tree_of c may.epoch f.group before).instances may.instance may.one writer;
        }
      where
        kept : (x : Instance) → is_writer f site x ≡ true → filter (is_writer f site) (x ∷ []) ≡ x ∷ []
        kept x h = rw h refl

-- Each record.

first_still : (c : Config) (line : ℕ) (what : Record) (before : Trace) (p : Past) (f : FileId) → is_commit what ≡ false → First c before p f → First c (entry line what ∷ before) (after c what p) f
first_still c line (rec.Commit g site stamp parents content) before p f h x = false_true (sym h)
first_still c line what before p f h (Unmade m k) = Unmade (ap (λ fs. is_made fs f) (files_still c what p h) ∙ m) k
first_still c line what before p f h (Root m r) = Root (ap (λ fs. is_made fs f) (files_still c what p h) ∙ m) r
first_still c line what before p f h (Called id m k l) = Called id (ap (λ fs. is_made fs f) (files_still c what p h) ∙ m) k (calls_grow c what p id l)

-- the making of a file that a call's instance commits first, and whose instance does
abbrev pub making_by : Config → FileId → CallSoFar → Making
making_by c g k = record { file = g; kind = kind_made (Some k.words); set = sites_made (packs_of c g.group) (Some k.words) }

abbrev pub has_writer : Past → FileId → ℕ → CallSoFar → Bool
has_writer p g site k = list_any (λ (x : Instance). same_call x.grant.call k.id) (writers_of p g site)

-- no other file is made
pub none_other : (c : Config) (p : Past) (g f : FileId) (site : ℕ) → same_file g f ≡ false → is_made p.files f ≡ false → is_made (with_making c g site p) f ≡ false
none_other c p g f site other h = over (list_any (λ (m : Making). same_file m.file g) p.files)
  where
    none : (ks : List CallSoFar) (rest : List Making) → is_made rest f ≡ false → is_made (map (making_by c g) ks ++ rest) f ≡ false
    none [] rest k = k
    none (x ∷ ks) rest k = rw other (none ks rest k)

    over : (b : Bool) → is_made (cond b p.files (map (making_by c g) (filter (has_writer p g site) p.calls) ++ p.files)) f ≡ false
    over true = h
    over false = none (filter (has_writer p g site) p.calls) p.files h

first_commit : (c : Config) (line : ℕ) (g : FileId) (site : ℕ) (stamp : Stamp) (parents : List Stamp) (content : List ℕ) (before : Trace) (p : Past) → MayCommit c before g site stamp parents content → Agrees c before p → (f : FileId) → First c before p f
    → First c (entry line (rec.Commit g site stamp parents content) ∷ before) (after c (rec.Commit g site stamp parents content) p) f
first_commit c line g site stamp parents content before p may a f (Root m r) = Root (makings_more c p g site f m) r
first_commit c line g site stamp parents content before p may a f (Called id m k l) = Called id (makings_more c p g site f m) (ap (λ o. option_or o (cond (same_file g f) (option_map (λ (x : TreeInstance). x.grant.call) (committing c before f site)) None)) k) l
first_commit c line g site stamp parents content before p may a f (Unmade m k) = over (same_file g f) refl
  where
    new : Option CallId → Option CallId
    new o = option_or (first_call c before f) o

    of_it : Committer c before p g site may.instance → same_file g f ≡ true → First c (entry line (rec.Commit g site stamp parents content) ∷ before) (after c (rec.Commit g site stamp parents content) p) f
    of_it it e = Called may.instance.grant.call
        (subst (λ h. is_made (with_making c g site p) h ≡ true) (file_eq g f e) (committed_made c before p g site stamp parents content may a))
        (ap (λ o. option_or o (cond (same_file g f) (option_map (λ (x : TreeInstance). x.grant.call) (committing c before f site)) None)) k
        ∙ (ap (λ b. cond b (option_map (λ (x : TreeInstance). x.grant.call) (committing c before f site)) None) e
        ∙ ap (option_map (λ (x : TreeInstance). x.grant.call)) (subst (λ h. committing c before h site ≡ Some may.instance) (file_eq g f e) it.committing)))
        (ap (λ (y : TreeInstance). list_any (is_id y.grant.call) p.calls) (sym it.is) ∙ it.called)

    over : (b : Bool) → same_file g f ≡ b → First c (entry line (rec.Commit g site stamp parents content) ∷ before) (after c (rec.Commit g site stamp parents content) p) f
    over true e = of_it (committer c before p g site stamp parents content may a) e
    over false e = Unmade (none_other c p g f site e m)
        (ap (λ o. option_or o (cond (same_file g f) (option_map (λ (x : TreeInstance). x.grant.call) (committing c before f site)) None)) k
        ∙ ap (λ b. cond b (option_map (λ (x : TreeInstance). x.grant.call) (committing c before f site)) None) e)

pub first_step : (c : Config) (line : ℕ) (what : Record) (before : Trace) (p : Past) → MayCome c before what → Agrees c before p → (f : FileId) → First c (entry line what ∷ before) (after c what p) f
first_step c line (rec.Commit g site stamp parents content) before p may a f = first_commit c line g site stamp parents content before p may a f (a.firsts f)
first_step c line what before p may a f = first_still c line what before p f refl (a.firsts f)

-- Before the first record.

made_root : (c : Config) (f : FileId) (ns : List ℕ) → is_made (map (λ group. record { file = root_of group; kind = Dir; set = packs_of c group }) ns) f ≡ true → (f.ino == 1) ≡ true
made_root c f [] h = false_true h
made_root c f (n ∷ ns) h = over (made_root c f ns) (same_file (root_of n) f) refl
  where
    own : same_file (root_of n) f ≡ true → (f.ino == 1) ≡ true
    own e = grind (arith, nat_tests)

    over : (is_made (map (λ group. record { file = root_of group; kind = Dir; set = packs_of c group }) ns) f ≡ true → (f.ino == 1) ≡ true) → (b : Bool) → same_file (root_of n) f ≡ b → (f.ino == 1) ≡ true
    over later true e = own e
    over later false e = later (rw e at h)

pub firsts_begin : (c : Config) (f : FileId) → First c [] (nothing_yet c) f
firsts_begin c f = over (is_made (nothing_yet c).files f) refl
  where
    over : (b : Bool) → is_made (nothing_yet c).files f ≡ b → First c [] (nothing_yet c) f
    over true h = Root h (made_root c f groups h)
    over false h = Unmade h refl
