-- What an instance has found stands in its content, while nothing is done on it that changes the content.
use Rattle.std.proofs.Common.{◌≡◌, ℕ, ◌+◌, ◌==◌, nat_lt, Bool, true, false, cond, List, [], ◌∷◌, Option, Some, None, refl, sym, ◌∙◌, ap, subst, ◌⊎◌, inl, inr}
use Rattle.role_steps.proofs.of_plain_facts.Numbers.{equal}
use Rattle.role_steps.proofs.of_plain_facts.Options.{some_same}
use Rattle.role_steps.proofs.of_plain_facts.Tests.{and_first, and_second, true_false}
use Rattle.locus_ids.specs.declared.config.Config.{Config}
use Rattle.locus_ids.specs.declared.ids.EpochId.{EpochId}
use Rattle.locus_ids.specs.declared.ids.Kind.{Kind}
use Rattle.locus_ids.specs.declared.ids.Kind.TheVariants as kind
use Rattle.locus_ids.specs.declared.ids.Serial.{Serial}
use Rattle.locus_ids.specs.declared.refusal.Refusal.TheVariants as refusal
use Rattle.commit_graph.specs.declared.history.Version.{Version}
use Rattle.trace_book.specs.declared.operation.Op.{Op}
use Rattle.trace_book.specs.declared.operation.Op.TheVariants as op
use Rattle.trace_book.specs.declared.operation.Outcome.{Outcome}
use Rattle.trace_book.specs.declared.operation.Outcome.TheVariants as outcome
use Rattle.trace_book.specs.declared.record.Record.TheVariants as says
use Rattle.dir_format.specs.declared.looking.LookResult.{LookResult}
use Rattle.dir_format.specs.declared.looking.LookResult.TheVariants as look
use Rattle.dir_format.specs.Contents.{entries_of, is_dir}
use Rattle.dir_format.specs.Effects.{DirEffect, empty_among, empty_effect, find_by, find_effect}
use Rattle.dir_format.specs.Grammar.{dir_bytes}
use Rattle.dir_format.specs.Lookups.{lookup, shown_names}
use Rattle.file_content.specs.Pages.{pages_needed}
use Rattle.file_effects.specs.Effects.{As, Effect, effect, in_directory, is_refusal, on_directory}
use Rattle.file_effects.specs.Works.{carried_out, counted, result_in}
use Rattle.file_effects.specs.declared.work.Work.{Work}
use Rattle.role_steps.specs.Views.{Told, Shown}
use Rattle.the_run.specs.Worlds.{Line}
use Rattle.tree_model.specs.declared.instance.Instance.{Instance}
use Rattle.tree_model.specs.Given.{instance_gives}
use Rattle.tree_model.specs.Histories.{history}
use Rattle.tree_model.specs.Same.{is_given, same_kind, same_outcome}
use Rattle.tree_model.specs.State.{TreeState, instance_in}
use Rattle.tree_model.specs.Tree.{once_acted, tree_of}
use Rattle.tree_model.specs.Working.{effect_on, free_pages, in_room, operated_by, result_on, work_after}
use Rattle.lawful_trace.specs.TreeRows.{granted_group}
use Rattle.tree_laws.specs.Following.{IsFollowed, MayTell}
use Rattle.tree_laws.specs.Instances.{instance_now}
use Rattle.tree_laws.specs.Past.{ActRecord, Printed, WasDone, WasNamed}
use Rattle.tree_laws.specs.Printed.{entries}
use Rattle.store_laws.proofs.AnswerDone.{done_named}
use Rattle.rest_laws.proofs.Fits.CalmAskingInstances.{IsApartTold, Keeps, keeps}
use Rattle.rest_laws.proofs.Fits.CalmAskingRemoving.{Leaves}

abbrev With : ℕ → Told → List Line → List Line
With n x older = record { number = n; told = x } ∷ older

no_effect : (e : Effect) → ◌≡◌ {A = Option Effect} None (Some e) → ⊥
no_effect e k = cc

-- ---- what leaves a content ----

find_uncounted : (component : List ℕ) (content : List ℕ) (r : LookResult) → (find_by component (entries_of content) r).counts ≡ false
find_uncounted component content (look.Found ino kind) = refl
find_uncounted component content look.Absent = refl
find_uncounted component content (look.Ambiguous a b) = refl

empty_uncounted : (content : List ℕ) (names : List (List ℕ)) → (empty_among (entries_of content) names).counts ≡ false
empty_uncounted content [] = refl
empty_uncounted content (n ∷ ns) = refl

uncounted_same : (content : List ℕ) (d : DirEffect) (e : Effect) → d.counts ≡ false → in_directory content (Some d) ≡ Some e → e.content ≡ content
uncounted_same content d e same k = over (is_dir d.entries) k
  where
    over : (b : Bool) → cond b (Some (on_directory content d)) None ≡ Some e → e.content ≡ content
    over true q = ap (λ (x : Effect). x.content) (sym (some_same (on_directory content d) e q)) ∙ ap (λ (b : Bool). cond b (dir_bytes d.entries) content) same
    over false q = absurd (no_effect e q)

operated_same : (result : Outcome) (o : Option Effect) (w : Work) → ((e : Effect) → o ≡ Some e → e.content ≡ w.content) → (operated_by result o w).content ≡ w.content
operated_same result None w each = refl
operated_same result (Some e) w each = over (is_refusal result)
  where
    over : (b : Bool) → (cond b (counted w) (carried_out e w)).content ≡ w.content
    over true = refl
    over false = each e refl

pub left_same : (h : List Version) (t : TreeState) (o : Op) (result : Outcome) (x : Instance) → Leaves o → (work_after h t o result x).content ≡ x.work.content
left_same h t (op.Find component) result x k = operated_same result (effect_on h t (op.Find component) x) x.work (λ e is. uncounted_same x.work.content (find_effect component (entries_of x.work.content)) e (find_uncounted component x.work.content (lookup (entries_of x.work.content) component)) is)
left_same h t op.Empty result x k = operated_same result (effect_on h t op.Empty x) x.work (λ e is. uncounted_same x.work.content (empty_effect (entries_of x.work.content)) e (empty_uncounted x.work.content (shown_names (entries_of x.work.content))) is)
left_same h t _ result x k = absurd k

-- ---- what is found ----

kind_same : (a b : Kind) → same_kind a b ≡ true → a ≡ b
kind_same kind.File kind.File e = refl
kind_same kind.Dir kind.Dir e = refl
kind_same kind.File kind.Dir e = absurd (true_false (sym e))
kind_same kind.Dir kind.File e = absurd (true_false (sym e))

-- a result that finds is that of the effect
roomed : (free : ℕ) (changed : List ℕ) (e : Effect) (ino : ℕ) (k : Kind) → same_outcome (result_in free changed e) (outcome.Found ino k) ≡ true → same_outcome e.result (outcome.Found ino k) ≡ true
roomed free changed e ino k h = over (is_refusal e.result) (nat_lt free (pages_needed e.pages changed)) e.spent h
  where
    over : (a b s : Bool) → same_outcome (cond a e.result (cond b (outcome.No (refusal.NoSpace (pages_needed e.pages changed) free)) (cond s (outcome.No refusal.Spent) e.result))) (outcome.Found ino k) ≡ true → same_outcome e.result (outcome.Found ino k) ≡ true
    over true b s q = q
    over false true s q = absurd (true_false (sym q))
    over false false true q = absurd (true_false (sym q))
    over false false false q = q

found_is : (component content : List ℕ) (r : LookResult) (ino : ℕ) (k : Kind) → same_outcome (find_by component (entries_of content) r).outcome (outcome.Found ino k) ≡ true → r ≡ look.Found ino k
found_is component content (look.Found i l) ino k h = ap (λ (n : ℕ). look.Found n l) (equal i ino (and_first (i == ino) (same_kind l k) h)) ∙ ap (look.Found ino) (kind_same l k (and_second (i == ino) (same_kind l k) h))
found_is component content look.Absent ino k h = absurd (true_false (sym h))
found_is component content (look.Ambiguous a b) ino k h = absurd (true_false (sym h))

given_found : (free : ℕ) (changed : List ℕ) (component content : List ℕ) (ino : ℕ) (k : Kind) → is_given (in_room free changed (effect (As (op.Find component)) content)) (outcome.Found ino k) ≡ true → lookup (entries_of content) component ≡ look.Found ino k
given_found free changed component content ino k h = over (is_dir (find_effect component (entries_of content)).entries) h
  where
    over : (b : Bool) → is_given (in_room free changed (cond b (Some (on_directory content (find_effect component (entries_of content)))) None)) (outcome.Found ino k) ≡ true → lookup (entries_of content) component ≡ look.Found ino k
    over true q = found_is component content (lookup (entries_of content) component) ino k (roomed free changed (on_directory content (find_effect component (entries_of content))) ino k q)
    over false q = absurd (true_false (sym q))

-- ---- the whole ----

-- only what leaves the content was done on it
abbrev pub OnlyLeft : List Line → EpochId → Serial → Type 0
OnlyLeft t e i = (n : ℕ) (o : Op) (r : Outcome) → WasDone t e i n o r → Leaves o

abbrev FindsStill : EpochId → Serial → List Line → Instance → Type 0
FindsStill e i t x = (n : ℕ) (component : List ℕ) (ino : ℕ) (k : Kind) → WasDone t e i n (op.Find component) (outcome.Found ino k) → OnlyLeft t e i → lookup (entries_of x.work.content) component ≡ look.Found ino k

module _ (c : Config) (e : EpochId) (i : Serial) where
  -- a line that is no operation on it leaves what was done
  not_done : (older : List Line) (x : Told) (n : ℕ) (o : Op) (r : Outcome) → IsApartTold e i x → Printed (ActRecord e i n o r) older x → ⊥
  not_done older (Shown (says.Act at inst number what gave)) n o r apart p = apart p.epoch_is p.serial_is
  not_done older (Shown _) n o r apart p = p
  not_done older _ n o r apart p = p

  acted : (n : ℕ) (older : List Line) (at : EpochId) (inst : Serial) (number : ℕ) (o : Op) (result : Outcome) (old : Instance) → MayTell c older (Shown (says.Act at inst number o result)) → at ≡ e → inst ≡ i → instance_now c older e i ≡ Some old → FindsStill e i older old →
      FindsStill e i (With n (Shown (says.Act at inst number o result)) older) (once_acted (history c (entries older)) (tree_of c at (granted_group (entries older) at inst) (entries older)) o result old)
  acted n older at inst number o result old may is same found k m component ino kd was only = ap (λ (content : List ℕ). lookup (entries_of content) component) (left_same h t o result old left) ∙ over was
    where
      h : List Version
      h = history c (entries older)

      t : TreeState
      t = tree_of c at (granted_group (entries older) at inst) (entries older)

      left : Leaves o
      left = only number o result (inl (record { epoch_is = is; serial_is = same; number_is = refl; operation_is = refl; result_is = refl }))

      here : instance_in t inst ≡ Some old
      here = subst (λ (w : EpochId). instance_now c older w inst ≡ Some old) (sym is) (subst (λ (j : Serial). instance_now c older e j ≡ Some old) (sym same) found)

      gave : is_given (result_on h t o old) result ≡ true
      gave = and_second (number == old.work.ops + 1) (is_given (result_on h t o old) result) (subst (λ (z : Option Instance). instance_gives h t number o result z ≡ true) here may.row.gives)

      over : Printed (ActRecord e i m (op.Find component) (outcome.Found ino kd)) older (Shown (says.Act at inst number o result)) ⊎ WasDone older e i m (op.Find component) (outcome.Found ino kd) → lookup (entries_of old.work.content) component ≡ look.Found ino kd
      over (inl p) = given_found (free_pages h t old.grant.ss) old.work.changed component old.work.content ino kd
          (subst (λ (y : Op). is_given (result_on h t y old) (outcome.Found ino kd) ≡ true) p.operation_is (subst (λ (y : Outcome). is_given (result_on h t o old) y ≡ true) p.result_is gave))
      over (inr earlier) = k m component ino kd earlier (λ n q r done. only n q r (inr done))

  -- what was just granted has done nothing
  fresh : (older : List Line) (at : EpochId) (inst : Serial) → IsFollowed c older → (WasNamed older at inst → ⊥) → at ≡ e → inst ≡ i → (m : ℕ) (component : List ℕ) (ino : ℕ) (kd : Kind) → ⊥ ⊎ WasDone older e i m (op.Find component) (outcome.Found ino kd) → ⊥
  fresh older at inst h new is same m component ino kd (inl none) = none
  fresh older at inst h new is same m component ino kd (inr done) = new (subst (λ (w : EpochId). WasNamed older w inst) (sym is) (subst (λ (j : Serial). WasNamed older e j) (sym same) (done_named c older h e i m (op.Find component) (outcome.Found ino kd) done)))

  before : (older : List Line) (x : Told) → IsApartTold e i x → (m : ℕ) (component : List ℕ) (ino : ℕ) (kd : Kind) → Printed (ActRecord e i m (op.Find component) (outcome.Found ino kd)) older x ⊎ WasDone older e i m (op.Find component) (outcome.Found ino kd) → WasDone older e i m (op.Find component) (outcome.Found ino kd)
  before older x apart m component ino kd (inl p) = absurd (not_done older x m (op.Find component) (outcome.Found ino kd) apart p)
  before older x apart m component ino kd (inr done) = done

  finds : Keeps c e i (FindsStill e i)
  finds = record {
    grants = λ n older at d request inst m f stamp ss h may is same k component ino kd was only. absurd (fresh older at inst h may.in_time.new is same k component ino kd was);
    acts = λ n older at inst number o result old h may is same found k. acted n older at inst number o result old may is same found k;
    commits = λ n older f s stamp parents content old h may found writes k m component ino kd was only. k m component ino kd (before older (Shown (says.Commit f s stamp parents content)) tt m component ino kd was) (λ q o r done. only q o r (inr done));
    stays = λ n x older old h may apart found k m component ino kd was only. k m component ino kd (before older x apart m component ino kd was) (λ q o r done. only q o r (inr done));
  }

-- what an instance has found is in its content still, where only what leaves the content was done
pub finds_still : (c : Config) (t : List Line) → IsFollowed c t → (e : EpochId) (i : Serial) (x : Instance) → instance_now c t e i ≡ Some x → (n : ℕ) (component : List ℕ) (ino : ℕ) (k : Kind) → WasDone t e i n (op.Find component) (outcome.Found ino k) → OnlyLeft t e i → lookup (entries_of x.work.content) component ≡ look.Found ino k
finds_still c t h e i x found n component ino k was only = keeps c e i (FindsStill e i) (finds c e i) t h x found n component ino k was only
