-- Along the trace each version of a directory, and each open instance of one, is a box of the names that are said.
use Rattle.std.proofs.Common.{◌≡◌, ℕ, ◌+◌, ◌==◌, Bool, true, false, not, ◌&&◌, cond, List, [], ◌∷◌, ◌++◌, filter, length, Option, Some, refl, sym, ◌∙◌, ap, subst, ◌⊎◌, inl, inr, arith, suc}
use Rattle.std.specs.List.{list_all}
use Rattle.std.specs.Prelude.{nat_le}
use Rattle.plain_facts.proofs.Options.{none_some, some_same}
use Rattle.plain_facts.proofs.Tests.{and_first, and_second, false_unless, true_false, and_true}
use Rattle.locus_ids.specs.declared.config.Config.{Config}
use Rattle.locus_ids.specs.declared.ids.CallId.{CallId}
use Rattle.locus_ids.specs.declared.ids.EpochId.{EpochId}
use Rattle.locus_ids.specs.declared.ids.FileId.{FileId}
use Rattle.locus_ids.specs.declared.ids.Mode.{Mode}
use Rattle.locus_ids.specs.declared.ids.Serial.{Serial}
use Rattle.locus_ids.specs.declared.ids.Stamp.{Stamp}
use Rattle.commit_graph.specs.Versions.{content_of, is_in, is_version, same_file}
use Rattle.commit_graph.specs.declared.history.Version.{Version}
use Rattle.trace_book.specs.Same.{same_epoch, same_serial}
use Rattle.trace_book.specs.declared.operation.Op.{Op}
use Rattle.trace_book.specs.declared.operation.Outcome.{Outcome}
use Rattle.trace_book.specs.declared.record.Record.{Record}
use Rattle.trace_book.specs.declared.record.Record.TheVariants as says
use Rattle.dir_format.specs.Contents.{entries_of}
use Rattle.role_steps.specs.Views.{Told, Shown}
use Rattle.the_run.specs.Worlds.{Line}
use Rattle.tree_model.specs.declared.instance.Instance.{Instance}
use Rattle.tree_model.specs.Folds.{Trace}
use Rattle.tree_model.specs.Histories.{history, format_version, format_versions}
use Rattle.tree_model.specs.Tree.{tree_of, once_acted}
use Rattle.lawful_trace.specs.TreeRows.{granted_group}
use Rattle.tree_laws.specs.Following.{IsFollowed, MayTell}
use Rattle.tree_laws.specs.Frames.{IsFresh}
use Rattle.tree_laws.specs.Instances.{instance_now}
use Rattle.tree_laws.specs.Printed.{entries, onto_entries}
use Rattle.tree_laws.proofs.Kinship.{GoesOnTold}
use Rattle.tree_laws.proofs.Names.{same_epoch_eq, same_serial_eq, same_epoch_own, same_serial_own}
use Rattle.tree_laws.proofs.Opened.{GrantsIt}
use Rattle.tree_laws.specs.Orders.Joining.{PacksAreOfSites}
use Rattle.rest_laws.proofs.of_store_laws.Holdings.Begun.{granted_open}
use Rattle.rest_laws.proofs.of_store_laws.Holdings.Made.{CommitsAreNew}
use Rattle.headline_laws.specs.Boxes.Boxes.{deeds, inserted, is_among, makings, removed, done_after, is_handled, are_handled, is_made_once, message_files, put_by}
use Rattle.headline_laws.proofs.Boxes.Puts.{MadeOnce, Put, Saw, MailsAreLow}
use Rattle.std.proofs.lemmas.Bool.Decides.{nat_tests}
use Rattle.file_effects.specs.Effects.{is_refusal}
use Rattle.tree_laws.proofs.Scripts.{named_stays}
use Rattle.headline_laws.proofs.Boxes.Keeping.{AllBoxes, AtWork, BoxOf, Holds, holds_later, Stayed, came, unchanged, work_later}
use Rattle.headline_laws.proofs.Boxes.Merging.{nothing_box}
use Rattle.locus_ids.specs.declared.sites.Sites.{Sites}
use Rattle.tree_laws.proofs.Orders.ProcessCounted.{acts_now}
use Rattle.rest_laws.specs.of_store_laws.OneTree.Rest.{EachRest}
use Rattle.rest_laws.proofs.of_store_laws.AnswerDone.{open_grant}
use Rattle.headline_laws.proofs.Boxes.Acted.{acted_work}
use Rattle.headline_laws.proofs.Boxes.Told.{committed_work, granted_work, versions_now}

abbrev With : ℕ → Told → List Line → List Line
With n x older = record { number = n; told = x } ∷ older

-- an operation on messages that is told is one of mail or of unlink
abbrev HandledTold : List Line → Told → Type 0
HandledTold older (Shown r) = is_handled (entries older) r ≡ true
HandledTold older _ = Unit {0}

-- what is committed is new
rests_new : (c : Config) (t : List Line) → EachRest c t → CommitsAreNew c (entries t)
rests_new c [] rest = tt
rests_new c (x ∷ older) rest = over x.told rest.0.fresh (rests_new c older rest.1)
  where
    over : (y : Told) → IsFresh c older y → CommitsAreNew c (entries older) → CommitsAreNew c (onto_entries x.number y (entries older))
    over (Shown (says.Commit f z stamp parents content)) fresh later = (false_unless (is_in (history c (entries older)) f stamp) fresh, later)
    over (Shown r) fresh later = (tt, later)
    over _ fresh later = later

-- ---- a told line ----

module _ (c : Config) (packs : PacksAreOfSites c) (n : ℕ) (older : List Line) (h : IsFollowed c older) (so : AllBoxes c older) (low : MailsAreLow older) (commits : CommitsAreNew c (entries older)) where
  abbrev earlier : Trace
  earlier = entries older

  -- of a record that does nothing on an open instance
  abbrev Passes : Record → Type 0
  Passes r = (e : EpochId) (i : Serial) (x : Instance) → instance_now c (With n (Shown r) older) e i ≡ Some x → AtWork c (With n (Shown r) older) e i x

  -- where it is as it was, and nothing more was done on it
  module _ (r : Record) (may : MayTell c older (Shown r)) (fresh : IsFresh c older (Shown r)) (once : MadeOnce c (With n (Shown r) older)) (e : EpochId) (i : Serial) (x : Instance) (st : Stayed c packs n r older h may fresh once e i x) where
    stays_so : deeds (entries (With n (Shown r) older)) e i ≡ deeds earlier e i → st.stays.new ≡ st.old → AtWork c (With n (Shown r) older) e i x
    stays_so same is = subst (AtWork c (With n (Shown r) older) e i) (sym is ∙ st.is) (unchanged c packs n r older h may fresh once e i st.old st.was st.live same (so.instances e i st.old st.was))

  act_now : (d : EpochId) (j : Serial) (k : ℕ) (o : Op) (result : Outcome) (may : MayTell c older (Shown (says.Act d j k o result))) (once : MadeOnce c (With n (Shown (says.Act d j k o result)) older)) (handled : is_handled earlier (says.Act d j k o result) ≡ true) → Passes (says.Act d j k o result)
  act_now d j k o result may once handled e i x found = over (came c packs n r older h may tt once e i x found)
    where
      r : Record
      r = says.Act d j k o result

      on_it : (st : Stayed c packs n r older h may tt once e i x) → d ≡ e → j ≡ i → AtWork c (With n (Shown r) older) e i x
      on_it st epoch_is serial_is = subst (λ (z : EpochId). AtWork c (With n (Shown r) older) z i x) epoch_is (subst (λ (w : Serial). AtWork c (With n (Shown r) older) d w x) serial_is
          (subst (AtWork c (With n (Shown r) older) d j) (some_same _ x (sym there ∙ found_there)) (acted_work c packs n older h so low commits d j k result st.old was_there o may once handled)))
        where
          was_there : instance_now c older d j ≡ Some st.old
          was_there = subst (λ (z : EpochId). instance_now c older z j ≡ Some st.old) (sym epoch_is) (subst (λ (w : Serial). instance_now c older e w ≡ Some st.old) (sym serial_is) st.was)

          found_there : instance_now c (With n (Shown r) older) d j ≡ Some x
          found_there = subst (λ (z : EpochId). instance_now c (With n (Shown r) older) z j ≡ Some x) (sym epoch_is) (subst (λ (w : Serial). instance_now c (With n (Shown r) older) e w ≡ Some x) (sym serial_is) found)

          there : instance_now c (With n (Shown r) older) d j ≡ Some (once_acted (history c earlier) (tree_of c d (granted_group earlier d j) earlier) o result st.old)
          there = acts_now c n older d j k o result st.old.grant.call st.old h (open_grant c older h d (granted_group earlier d j) j st.old was_there) was_there

      other : (st : Stayed c packs n r older h may tt once e i x) → (same_epoch d e && same_serial j i) ≡ false → AtWork c (With n (Shown r) older) e i x
      other st apart = goes st.stays.goes
        where
          same : deeds (entries (With n (Shown r) older)) e i ≡ deeds earlier e i
          same = ap (λ (b : Bool). cond (b && not (is_refusal result)) (done_after o (deeds earlier e i)) (deeds earlier e i)) apart

          goes : GoesOnTold c older e i st.old st.stays.new (Shown r) → AtWork c (With n (Shown r) older) e i x
          goes (inl is) = stays_so r may tt once e i x st same is
          goes (inr (inl on)) = absurd (true_false (sym (both on.0.0 on.0.1) ∙ apart))
            where
              both : d ≡ e → j ≡ i → (same_epoch d e && same_serial j i) ≡ true
              both p q = and_true (same_epoch d e) (same_serial j i) (subst (λ (z : EpochId). same_epoch d z ≡ true) p (same_epoch_own d)) (subst (λ (w : Serial). same_serial j w ≡ true) q (same_serial_own j))
          goes (inr (inr on)) = absurd on

      over : Stayed c packs n r older h may tt once e i x ⊎ GrantsIt e i r → AtWork c (With n (Shown r) older) e i x
      over (inr g) = absurd g
      over (inl st) = at (same_epoch d e && same_serial j i) refl
        where
          at : (b : Bool) → (same_epoch d e && same_serial j i) ≡ b → AtWork c (With n (Shown r) older) e i x
          at true q = on_it st (same_epoch_eq d e (and_first (same_epoch d e) (same_serial j i) q)) (same_serial_eq j i (and_second (same_epoch d e) (same_serial j i) q))
          at false q = other st q

  commit_now : (f : FileId) (z : ℕ) (stamp : Stamp) (parents : List Stamp) (content : List ℕ) (may : MayTell c older (Shown (says.Commit f z stamp parents content))) (fresh : IsFresh c older (Shown (says.Commit f z stamp parents content))) (once : MadeOnce c (With n (Shown (says.Commit f z stamp parents content)) older)) →
      Passes (says.Commit f z stamp parents content)
  commit_now f z stamp parents content may fresh once e i x found = over (came c packs n r older h may fresh once e i x found)
    where
      r : Record
      r = says.Commit f z stamp parents content

      over : Stayed c packs n r older h may fresh once e i x ⊎ GrantsIt e i r → AtWork c (With n (Shown r) older) e i x
      over (inr g) = absurd g
      over (inl st) = goes st.stays.goes
        where
          goes : GoesOnTold c older e i st.old st.stays.new (Shown r) → AtWork c (With n (Shown r) older) e i x
          goes (inl is) = stays_so r may fresh once e i x st refl is
          goes (inr (inl on)) = absurd on
          goes (inr (inr on)) = subst (AtWork c (With n (Shown r) older) e i) (sym on.2 ∙ st.is) (committed_work c packs n older h so f z stamp parents content may fresh once e i st.old st.was on.0 on.1)

  grant_now : (at : EpochId) (call : CallId) (request : ℕ) (inst : Serial) (m : Mode) (f : FileId) (stamp : Option Stamp) (ss : ℕ) (may : MayTell c older (Shown (says.Grant at call request inst m f stamp ss))) (once : MadeOnce c (With n (Shown (says.Grant at call request inst m f stamp ss)) older)) → Passes (says.Grant at call request inst m f stamp ss)
  grant_now at call request inst m f stamp ss may once e i x found = over (came c packs n r older h may tt once e i x found)
    where
      r : Record
      r = says.Grant at call request inst m f stamp ss

      granted : at ≡ e → inst ≡ i → AtWork c (With n (Shown r) older) e i x
      granted epoch_is serial_is = subst (λ (d : EpochId). AtWork c (With n (Shown r) older) d i x) epoch_is (subst (λ (j : Serial). AtWork c (With n (Shown r) older) at j x) serial_is
          (subst (AtWork c (With n (Shown r) older) at inst) (some_same _ x (sym (granted_open c older n h at call request inst m f stamp ss may).open_at.found ∙ found_there)) (granted_work c packs n older h so at call request inst m f stamp ss may once)))
        where
          found_there : instance_now c (With n (Shown r) older) at inst ≡ Some x
          found_there = subst (λ (d : EpochId). instance_now c (With n (Shown r) older) d inst ≡ Some x) (sym epoch_is) (subst (λ (j : Serial). instance_now c (With n (Shown r) older) e j ≡ Some x) (sym serial_is) found)

      over : Stayed c packs n r older h may tt once e i x ⊎ GrantsIt e i r → AtWork c (With n (Shown r) older) e i x
      over (inr g) = granted g.0 g.1
      over (inl st) = by (same_epoch at e && same_serial inst i) refl
        where
          goes : (same_epoch at e && same_serial inst i) ≡ false → GoesOnTold c older e i st.old st.stays.new (Shown r) → AtWork c (With n (Shown r) older) e i x
          goes apart (inl is) = stays_so r may tt once e i x st (ap (λ (b : Bool). cond b [] (deeds earlier e i)) apart) is
          goes apart (inr (inl on)) = absurd on
          goes apart (inr (inr on)) = absurd on

          by : (b : Bool) → (same_epoch at e && same_serial inst i) ≡ b → AtWork c (With n (Shown r) older) e i x
          by true q = granted (same_epoch_eq at e (and_first (same_epoch at e) (same_serial inst i) q)) (same_serial_eq inst i (and_second (same_epoch at e) (same_serial inst i) q))
          by false q = goes q st.stays.goes

  record_now : (r : Record) (may : MayTell c older (Shown r)) (fresh : IsFresh c older (Shown r)) (once : MadeOnce c (With n (Shown r) older)) (handled : is_handled earlier r ≡ true) → Passes r
  record_now (says.Act d j k o result) may fresh once handled e i x found = act_now d j k o result may once handled e i x found
  record_now (says.Commit f z stamp parents content) may fresh once handled e i x found = commit_now f z stamp parents content may fresh once e i x found
  record_now (says.Grant at call request inst m f stamp ss) may fresh once handled e i x found = grant_now at call request inst m f stamp ss may once e i x found
  record_now r may fresh once handled e i x found = over (came c packs n r older h may fresh once e i x found)
    where
      over : Stayed c packs n r older h may fresh once e i x ⊎ GrantsIt e i r → AtWork c (With n (Shown r) older) e i x
      over (inr g) = absurd g
      over (inl st) = goes st.stays.goes
        where
          goes : GoesOnTold c older e i st.old st.stays.new (Shown r) → AtWork c (With n (Shown r) older) e i x
          goes (inl is) = stays_so r may fresh once e i x st refl is
          goes (inr (inl on)) = absurd on
          goes (inr (inr on)) = absurd on

  abbrev Version_of : Record → Type 0
  Version_of r = (f : FileId) (s : Stamp) → Holds c (With n (Shown r) older) f (is_among (inserted (makings c (entries (With n (Shown r) older))) f s)) (is_among (removed (makings c (entries (With n (Shown r) older))) f s)) (content_of (history c (entries (With n (Shown r) older))) f s)

  record_versions : (r : Record) (may : MayTell c older (Shown r)) (fresh : IsFresh c older (Shown r)) (once : MadeOnce c (With n (Shown r) older)) → Version_of r
  record_versions (says.Commit g z stamp parents content) may fresh once f s = versions_now c packs n older h so g z stamp parents content may fresh once f s
  record_versions r may fresh once f s = holds_later c n (Shown r) older h may fresh once f (is_among (inserted (makings c earlier) f s)) (is_among (removed (makings c earlier) f s)) (content_of (history c earlier) f s) (so.versions f s)

  told_boxes : (x : Told) (may : MayTell c older x) (fresh : IsFresh c older x) (once : MadeOnce c (With n x older)) → HandledTold older x → AllBoxes c (With n x older)
  told_boxes (Shown r) may fresh once handled = record { versions = record_versions r may fresh once; instances = record_now r may fresh once handled }
  told_boxes x may fresh once handled = record {
    versions = λ f s. holds_later c n x older h may fresh once f (is_among (inserted (makings c earlier) f s)) (is_among (removed (makings c earlier) f s)) (content_of (history c earlier) f s) (so.versions f s);
    instances = λ e i y found. work_later c n x older h may fresh once e i y refl refl refl (so.instances e i y found);
  }

-- ---- what is asked of the whole trace is so of the earlier one ----

all_behind : {X : Type 0} (p : X → Bool) (xs ys : List X) → list_all p (xs ++ ys) ≡ true → list_all p ys ≡ true
all_behind p [] ys k = k
all_behind p (x ∷ xs) ys k = all_behind p xs ys (and_second (p x) (list_all p (xs ++ ys)) k)

list_weaker : {X : Type 0} (p q : X → Bool) → ((x : X) → p x ≡ true → q x ≡ true) → (xs : List X) → list_all p xs ≡ true → list_all q xs ≡ true
list_weaker p q more [] k = refl
list_weaker p q more (x ∷ xs) k = and_true (q x) (list_all q xs) (more x (and_first (p x) (list_all p xs) k)) (list_weaker p q more xs (and_second (p x) (list_all p xs) k))

fewer_made : (v : Version) (past : List Version) (f : FileId) → is_made_once (v ∷ past) f ≡ true → is_made_once past f ≡ true
fewer_made v past f k = over (same_file v.file f) k
  where
    less : (m : ℕ) → nat_le (suc m) 1 ≡ true → nat_le m 1 ≡ true
    less m e = grind (arith, nat_tests)

    over : (b : Bool) → nat_le (length (cond b (v ∷ filter (λ (w : Version). same_file w.file f) past) (filter (λ (w : Version). same_file w.file f) past))) 1 ≡ true → nat_le (length (filter (λ (w : Version). same_file w.file f) past)) 1 ≡ true
    over true e = less (length (filter (λ (w : Version). same_file w.file f) past)) e
    over false e = e

once_before : (c : Config) (n : ℕ) (x : Told) (older : List Line) → MadeOnce c (With n x older) → MadeOnce c older
once_before c n (Shown r) older k = by r (all_behind (is_made_once (history c (entries (With n (Shown r) older)))) (put_by r (entries older)) (message_files (entries older)) k)
  where
    by : (y : Record) → list_all (is_made_once (history c (entries (With n (Shown y) older)))) (message_files (entries older)) ≡ true → MadeOnce c older
    by (says.Commit f z stamp parents content) k = list_weaker (is_made_once (record { file = f; site = z; stamp = stamp; parents = parents; content = content } ∷ history c (entries older))) (is_made_once (history c (entries older)))
        (λ g. fewer_made (record { file = f; site = z; stamp = stamp; parents = parents; content = content }) (history c (entries older)) g) (message_files (entries older)) k
    by _ k = k
once_before c n _ older k = k

handled_before : (n : ℕ) (x : Told) (older : List Line) → are_handled (onto_entries n x (entries older)) ≡ true → are_handled (entries older) ≡ true
handled_before n (Shown r) older k = and_second (is_handled (entries older) r) (are_handled (entries older)) k
handled_before n _ older k = k

low_before : (c : Config) (n : ℕ) (x : Told) (older : List Line) → IsFollowed c older → MayTell c older x → MailsAreLow (With n x older) → MailsAreLow older
low_before c n x older h may low d w path bytes named mails = low d w path bytes (named_stays c n x older d h may (w, named) ∙ named) mails

-- ---- all ----

no_content : (f : FileId) (s : Stamp) (k : ℕ) (packs : List Sites) → content_of (format_versions k packs) f s ≡ []
no_content f s k [] = refl
no_content f s k (p ∷ ps) = at (p.0 == 0) (no_content f s (k + 1) ps)
  where
    over : (b : Bool) → content_of (format_versions (k + 1) ps) f s ≡ [] → cond b [] (content_of (format_versions (k + 1) ps) f s) ≡ []
    over true later = refl
    over false later = later

    at : (a : Bool) → content_of (format_versions (k + 1) ps) f s ≡ [] → content_of (cond a (format_versions (k + 1) ps) (format_version k ∷ format_versions (k + 1) ps)) f s ≡ []
    at true later = later
    at false later = over (is_version f s (format_version k)) later

pub trace_boxes : (c : Config) (trace : List Line) → PacksAreOfSites c → IsFollowed c trace → EachRest c trace → MailsAreLow trace → are_handled (entries trace) ≡ true → MadeOnce c trace → AllBoxes c trace
trace_boxes c [] packs h rest low handled once = record {
  versions = λ f s. inr (subst (λ (l : List ℕ). BoxOf c [] f.group (λ m. false) (λ m. false) (entries_of l)) (sym (no_content f s 0 c.packs)) (nothing_box (Put c [] f.group) (Saw c [] f.group)));
  instances = λ e i x found. absurd (none_some x found);
}
trace_boxes c (x ∷ older) packs h rest low handled once = told_boxes c packs x.number older h.1
    (trace_boxes c older packs h.1 rest.1 (low_before c x.number x.told older h.1 h.0 low) (handled_before x.number x.told older handled) (once_before c x.number x.told older once))
    (low_before c x.number x.told older h.1 h.0 low) (rests_new c older rest.1) x.told h.0 rest.0.fresh once (it x.told handled)
  where
    it : (y : Told) → are_handled (onto_entries x.number y (entries older)) ≡ true → HandledTold older y
    it (Shown r) k = and_first (is_handled (entries older) r) (are_handled (entries older)) k
    it _ k = tt
