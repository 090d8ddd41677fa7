-- What stands of a group in an epoch stands only once the group has started: opens, looks, instances, and mends that failed.
use Rattle.std.proofs.Common.{◌≡◌, ℕ, ◌==◌, Bool, true, false, ◌||◌, cond, List, [], ◌∷◌, filter, map, Option, Some, None, refl, sym, ap, ◌∙◌, subst, inl, inr}
use Rattle.std.specs.List.{AllByRecursion}
use Rattle.role_steps.proofs.of_plain_facts.Numbers.{equal}
use Rattle.role_steps.proofs.of_plain_facts.Options.{none_some, some_same}
use Rattle.role_steps.proofs.of_plain_facts.Tests.{and_first, and_second, true_false}
use Rattle.locus_ids.specs.declared.config.Config.{Config}
use Rattle.locus_ids.specs.declared.ids.CallId.{CallId}
use Rattle.locus_ids.specs.declared.ids.EpochId.{EpochId}
use Rattle.locus_ids.specs.declared.ids.FileId.{FileId}
use Rattle.locus_ids.specs.declared.ids.Serial.{Serial}
use Rattle.commit_graph.specs.Versions.{same_file}
use Rattle.trace_book.specs.Same.{same_call, same_epoch}
use Rattle.trace_book.specs.declared.call.Call.{Call}
use Rattle.trace_book.specs.declared.call.Call.TheVariants as call
use Rattle.trace_book.specs.declared.record.Record.{Record}
use Rattle.trace_book.specs.declared.record.Record.TheVariants as says
use Rattle.trace_book.specs.declared.reply.Reply.{Reply}
use Rattle.trace_book.specs.declared.reply.Reply.TheVariants as reply
use Rattle.role_steps.specs.Views.{Told, Shown, Begins}
use Rattle.the_run.specs.Worlds.{Line}
use Rattle.tree_model.specs.declared.accepted.Waiting.{Waiting}
use Rattle.tree_model.specs.declared.instance.Instance.{Instance}
use Rattle.tree_model.specs.Calls.{accepted_as, call_named}
use Rattle.tree_model.specs.Epochs.{epoch_of, has_joined, is_in}
use Rattle.tree_model.specs.Tree.{tree_of}
use Rattle.lawful_trace.specs.CallRows.{CallRow, ends_mending, has_lost_mend, is_lost_mend, is_mend_of}
use Rattle.tree_laws.specs.Calls.{tries}
use Rattle.tree_laws.specs.Following.{IsFollowed, MayPrint, MayTell, RowsAreLawful}
use Rattle.tree_laws.specs.Instances.{IsStarted}
use Rattle.tree_laws.specs.Past.{BeginsIt, NamesHere, Printed, WasBegun, WasNamedIn}
use Rattle.tree_laws.specs.Printed.{entries}
use Rattle.tree_laws.specs.Tables.{Turn, is_look_of, last_turn, turn_record, turn_told, named_instance, tree_openers}
use Rattle.tree_laws.proofs.Kinship.{started_stays}
use Rattle.tree_laws.proofs.Names.{same_epoch_eq}
use Rattle.store_laws.proofs.of_tree_laws.Orders.Standing.{same_file_eq}
use Rattle.store_laws.proofs.of_tree_laws.Orders.Started.{rows_started}
use Rattle.store_laws.proofs.Holdings.Copies.{epoch_joined, joined_more}

module _ (c : Config) (e : EpochId) (g : ℕ) where
  started_at : (older : List Line) (at : EpochId) (k : ℕ) → at ≡ e → k ≡ g → (tree_of c at k (entries older)).started ≡ true → IsStarted c older e g
  started_at older at k p q s = subst (λ (n : ℕ). IsStarted c older e n) q (subst (λ (d : EpochId). IsStarted c older d k) p s)

  -- ---- opens ----

  names_record : (i : Serial) (older : List Line) (r : Record) → MayPrint c older r → NamesHere e g i older r → IsStarted c older e g
  names_record i older (says.Grant at call number inst mode file on place) may h = started_at older at file.group h.0.epoch_is h.1 (and_first (tree_of c at file.group (entries older)).started _ may.row.gives)
  names_record i older (says.Refuse at call number inst mode file why) may h = started_at older at file.group h.0.epoch_is h.1 (and_first (tree_of c at file.group (entries older)).started _ may.row.gives)
  names_record i older _ may h = absurd h

  names_told : (i : Serial) (older : List Line) (x : Told) → MayTell c older x → Printed (NamesHere e g i) older x → IsStarted c older e g
  names_told i older (Shown r) may h = names_record i older r may h
  names_told i older _ may h = absurd h

  pub named_started : (i : Serial) (t : List Line) → IsFollowed c t → WasNamedIn t e g i → IsStarted c t e g
  named_started i [] h w = absurd w
  named_started i (x ∷ older) h (inl w) = started_stays c x.number x.told older e g (names_told i older x.told h.0 w)
  named_started i (x ∷ older) h (inr w) = started_stays c x.number x.told older e g (named_started i older h.1 w)

  -- ---- looks ----

  look_is : (older : List Line) (us process : ℕ) (at : EpochId) (d : CallId) (f : FileId) (o : Option Waiting) → is_look_of older e g us at d f o process ≡ true → (at ≡ e) × (f.group ≡ g)
  look_is older us process at d f None k = absurd (true_false (sym k))
  look_is older us process at d f (Some w) k = (
    same_epoch_eq at e (and_first (same_epoch at e) _ k),
    equal f.group g (and_first (f.group == g) _ (and_second (same_epoch at e) _ k)),
  )

  looks_record : (us process : ℕ) (older : List Line) (r : Record) (l : Turn) → MayPrint c older r → (last_turn older e g us process ≡ Some l → IsStarted c older e g) → turn_record older e g us process r (last_turn older e g us process) ≡ Some l → IsStarted c older e g
  looks_record us process older (says.Look at d request f w result) l may later k = over (is_look_of older e g us at d f (call_named (entries older) d) process) refl k
    where
      over : (b : Bool) → is_look_of older e g us at d f (call_named (entries older) d) process ≡ b → cond b (Some (record { call = d.n; request = request; times = tries older d })) (last_turn older e g us process) ≡ Some l → IsStarted c older e g
      over true is k = (let w : (at ≡ e) × (f.group ≡ g) = look_is older us process at d f (call_named (entries older) d) is in started_at older at f.group w.0 w.1 (and_first (tree_of c at f.group (entries older)).started _ may.row.gives))
      over false is k = later k
  looks_record us process older _ l may later k = later k

  looks_told : (us process : ℕ) (older : List Line) (x : Told) (l : Turn) → MayTell c older x → (last_turn older e g us process ≡ Some l → IsStarted c older e g) → turn_told older e g us process x (last_turn older e g us process) ≡ Some l → IsStarted c older e g
  looks_told us process older (Shown r) l may later k = looks_record us process older r l may later k
  looks_told us process older _ l may later k = later k

  pub looked_started : (us process : ℕ) (t : List Line) → IsFollowed c t → (l : Turn) → last_turn t e g us process ≡ Some l → IsStarted c t e g
  looked_started us process [] h l k = absurd (none_some l k)
  looked_started us process (x ∷ older) h l k = started_stays c x.number x.told older e g (looks_told us process older x.told l h.0 (looked_started us process older h.1 l) k)

  -- ---- instances ----

  pub unstarted_openers : (t : List Line) → RowsAreLawful c (entries t) → (IsStarted c t e g → ⊥) → (file : FileId) → tree_openers (tree_of c e g (entries t)) file ≡ []
  unstarted_openers t rows none file = ap (λ (xs : List Instance). map named_instance (filter (λ (x : Instance). same_file x.grant.file file) xs)) (empty (tree_of c e g (entries t)).instances (rows_started c (entries t) rows e g))
    where
      empty : (xs : List Instance) → AllByRecursion (λ (x : Instance). (tree_of c e g (entries t)).started ≡ true) xs → xs ≡ []
      empty [] all = refl
      empty (x ∷ xs) all = absurd (none all.0)

  -- ---- mends ----

  same_in : (o : Option EpochId) (d : EpochId) → o ≡ Some d → is_in o e ≡ true → d ≡ e
  same_in o d k is = same_epoch_eq d e (subst (λ (p : Option EpochId). is_in p e ≡ true) k is)

  module _ (f : FileId) (group_is : f.group ≡ g) where
    mend_row : (older : List Line) (s process : ℕ) (d : CallId) (words : Call) → CallRow c (entries older) s process d words → is_in (epoch_of (entries older) s) e ≡ true → is_mend_of f words ≡ true → IsStarted c older e g
    mend_row older s process d (call.Mend file) may is mends = started_at older may.epoch file.group (same_in (epoch_of (entries older) s) may.epoch may.inside is) (ap (λ (x : FileId). x.group) (same_file_eq file f mends) ∙ group_is) may.started
    mend_row older s process d _ may is mends = absurd (true_false (sym mends))

    mend_record : (older : List Line) (n : ℕ) (r : Record) (d : CallId) (w : Waiting) → MayPrint c older r → (call_named (entries older) d ≡ Some w → IsStarted c older e g) → call_named (record { line = n; what = r } ∷ entries older) d ≡ Some w → is_in w.epoch e ≡ true → is_mend_of f w.words ≡ true → IsStarted c older e g
    mend_record older n (says.Accept s process call words) d w may later k is mends = over (same_call call d) k
      where
        over : (b : Bool) → cond b (Some (accepted_as (entries older) s process call words)) (call_named (entries older) d) ≡ Some w → IsStarted c older e g
        over true k = (let same : accepted_as (entries older) s process call words ≡ w = some_same (accepted_as (entries older) s process call words) w k in
            mend_row older s process call words may.row (subst (λ (x : Waiting). is_in x.epoch e ≡ true) (sym same) is) (subst (λ (x : Waiting). is_mend_of f x.words ≡ true) (sym same) mends))
        over false k = later k
    mend_record older n _ d w may later k is mends = later k

    mend_started : (t : List Line) → IsFollowed c t → (d : CallId) (w : Waiting) → call_named (entries t) d ≡ Some w → is_in w.epoch e ≡ true → is_mend_of f w.words ≡ true → IsStarted c t e g
    mend_started [] h d w k is mends = absurd (none_some w k)
    mend_started (x ∷ older) h d w k is mends = started_stays c x.number x.told older e g (told x.told h.0 (λ q. mend_started older h.1 d w q is mends) k)
      where
        told : (y : Told) → MayTell c older y → (call_named (entries older) d ≡ Some w → IsStarted c older e g) → call_named (entries (record { number = x.number; told = y } ∷ older)) d ≡ Some w → IsStarted c older e g
        told (Shown r) may later k = mend_record older x.number r d w may later k is mends
        told _ may later k = later k

    lost_is : (t : List Line) → IsFollowed c t → (d : CallId) (r : Reply) (o : Option Waiting) → call_named (entries t) d ≡ o → is_lost_mend e f r o ≡ true → IsStarted c t e g
    lost_is t h d (reply.No why) (Some w) named k = mend_started t h d w named (and_first (is_in w.epoch e) _ (and_second (ends_mending why) _ k)) (and_second (is_in w.epoch e) _ (and_second (ends_mending why) _ k))
    lost_is t h d (reply.No why) None named k = absurd (true_false (sym k))
    lost_is t h d _ o named k = absurd (true_false (sym k))

    lost_record : (older : List Line) (n : ℕ) (r : Record) → IsFollowed c older → (has_lost_mend (entries older) e f ≡ true → IsStarted c older e g) → has_lost_mend (record { line = n; what = r } ∷ entries older) e f ≡ true → IsStarted c older e g
    lost_record older n (says.Answer site process d r) h later k = over (is_lost_mend e f r (call_named (entries older) d)) refl k
      where
        over : (b : Bool) → is_lost_mend e f r (call_named (entries older) d) ≡ b → b || has_lost_mend (entries older) e f ≡ true → IsStarted c older e g
        over true is k = lost_is older h d r (call_named (entries older) d) refl is
        over false is k = later k
    lost_record older n _ h later k = later k

    -- a mend of a file of the group was refused for good
    pub lost_started : (t : List Line) → IsFollowed c t → has_lost_mend (entries t) e f ≡ true → IsStarted c t e g
    lost_started [] h k = absurd (true_false (sym k))
    lost_started (x ∷ older) h k = started_stays c x.number x.told older e g (told x.told (λ q. lost_started older h.1 q) k)
      where
        told : (y : Told) → (has_lost_mend (entries older) e f ≡ true → IsStarted c older e g) → has_lost_mend (entries (record { number = x.number; told = y } ∷ older)) e f ≡ true → IsStarted c older e g
        told (Shown r) later k = lost_record older x.number r h.1 later k
        told _ later k = later k

-- ---- storage sites ----

joined_told : (n : ℕ) (x : Told) (older : List Line) (s : ℕ) (e : EpochId) → has_joined (entries older) s e ≡ true → has_joined (entries (record { number = n; told = x } ∷ older)) s e ≡ true
joined_told n (Shown r) older s e k = joined_more r n (entries older) s e k
joined_told n _ older s e k = k

begins_told : (c : Config) (s : ℕ) (e : EpochId) (i : Serial) (f : FileId) (older : List Line) (x : Told) → MayTell c older x → BeginsIt s e i f older x → has_joined (entries older) s e ≡ true
begins_told c s e i f older (Begins site at inst file) may h =
    subst (λ (z : ℕ). has_joined (entries older) z e ≡ true) h.site_is (subst (λ (d : EpochId). has_joined (entries older) site d ≡ true) h.epoch_is (epoch_joined (entries older) site at may.inside))
begins_told c s e i f older _ may h = absurd h

-- who has begun an instance in an epoch has joined it
pub begun_joined : (c : Config) (s : ℕ) (e : EpochId) (i : Serial) (f : FileId) (t : List Line) → IsFollowed c t → WasBegun t s e i f → has_joined (entries t) s e ≡ true
begun_joined c s e i f [] h w = absurd w
begun_joined c s e i f (x ∷ older) h (inl w) = joined_told x.number x.told older s e (begins_told c s e i f older x.told h.0 w)
begun_joined c s e i f (x ∷ older) h (inr w) = joined_told x.number x.told older s e (begun_joined c s e i f older h.1 w)
