-- The changed pages of a storage site's open instances are those that the tree's instances there have changed.
use Rattle.std.proofs.Common.{◌≡◌, ℕ, ◌+◌, ◌*◌, ◌==◌, ◌<◌, ◌≤◌, Bool, true, false, ◌&&◌, cond, List, [], ◌∷◌, filter, length, Option, Some, None, refl, sym, ap, ◌∙◌, subst, arith, ◌⊎◌, inl, inr}
use Rattle.std.proofs.lemmas.List.Sums.{sum_by-cons}
use Rattle.std.specs.List.{AllByRecursion, find, sum_by}
use Rattle.tree_laws.proofs.of_plain_facts.Numbers.{equal, equal_self}
use Rattle.tree_laws.proofs.of_plain_facts.Options.{none_some, some_same}
use Rattle.tree_laws.proofs.of_plain_facts.Tests.{true_false}
use Rattle.locus_ids.specs.declared.config.Config.{Config}
use Rattle.locus_ids.specs.declared.ids.EpochId.{EpochId}
use Rattle.locus_ids.specs.declared.ids.FileId.{FileId}
use Rattle.locus_ids.specs.declared.ids.Serial.{Serial}
use Rattle.locus_ids.specs.declared.ids.Stamp.{Stamp}
use Rattle.locus_ids.specs.Sizes.{sites_max}
use Rattle.trace_book.specs.Same.{same_serial}
use Rattle.trace_book.specs.declared.record.Record.{Record}
use Rattle.trace_book.specs.declared.record.Record.TheVariants as says
use Rattle.call_rules.specs.declared.answer.Answer.{Answer}
use Rattle.tree_model.specs.of_file_effects.declared.work.Work.{Work}
use Rattle.site_laws.specs.of_role_steps.Own.{Every}
use Rattle.site_laws.specs.of_role_steps.Storage.{changed_pages, instance_key, instance_of, is_open, is_open_in}
use Rattle.site_laws.specs.of_role_steps.Reports.{stamp_made}
use Rattle.site_laws.specs.of_role_steps.Tables.{row, total}
use Rattle.site_laws.specs.of_role_steps.Using.{close_answer}
use Rattle.site_laws.specs.of_role_steps.Views.{Frame, Store, Told, Shown, serial_key}
use Rattle.site_laws.specs.of_role_steps.declared.instances.Instance.{Instance}
use Rattle.site_laws.specs.of_role_steps.declared.instances.Stage.{Stage}
use Rattle.site_laws.specs.of_role_steps.declared.instances.Stage.TheVariants as stage
use Rattle.tree_laws.specs.of_the_run.Worlds.{Line}
use Rattle.tree_model.specs.declared.instance.Instance.{Instance as Open}
use Rattle.tree_model.specs.State.{TreeState, instance_in, is_named}
use Rattle.tree_model.specs.Tree.{tree_of}
use Rattle.tree_model.specs.Working.{changed_pages as tree_changed}
use Rattle.tree_laws.specs.Following.{IsFollowed}
use Rattle.tree_laws.specs.Instances.{instance_now}
use Rattle.tree_laws.specs.Past.{EndRecord, Printed, ReleaseRecord, WasBegun, WasNamed, WasReleased, WasReleasedWith}
use Rattle.tree_laws.specs.Printed.{entries}
use Rattle.tree_laws.specs.Stores.{AreApart, EndsAs, InstanceFact, RunsAs, StageFact, StoreFact}
use Rattle.tree_laws.proofs.Grants.{open_named}
use Rattle.tree_laws.proofs.Names.{same_serial_eq, same_serial_own}
use Rattle.tree_laws.proofs.Rows.{followed_rows}
use Rattle.store_laws.specs.Holdings.Granted.{IsAsGranted}
use Rattle.store_laws.proofs.Holdings.Begun.{open_in_group, open_seat, waits_as_granted}
use Rattle.store_laws.proofs.Holdings.Below.{commits_new}
use Rattle.store_laws.proofs.Holdings.Distinct.{NamesApart, open_group, open_now, rows_names_apart}
use Rattle.store_laws.proofs.Holdings.Released.{released_shut}
use Rattle.store_laws.specs.Holdings.RoomRests.{RoomRests}
use Rattle.store_laws.proofs.Holdings.RoomOpenGranted.{GrantedSo, open_granted, open_user}
use Rattle.store_laws.proofs.Holdings.RoomSums.{Amount, AreSingle, TellsKeys, amount_at, same_sum, sum_of}

pub serials_tell : TellsKeys same_serial
serials_tell = record { is = λ a b e. same_serial_eq a b e; own = λ a. same_serial_own a }

-- ---- the tree's ----

-- what the instances at the site have changed
abbrev pub open_amounts : ℕ → List Open → List (Amount Serial)
open_amounts me [] = []
open_amounts me (x ∷ xs) = cond (x.grant.ss == me) (record { key = x.grant.inst; amount = length x.work.changed } ∷ open_amounts me xs) (open_amounts me xs)

pub open_sum : (me : ℕ) (xs : List Open) → sum_by (λ (x : Open). length x.work.changed) (filter (λ (x : Open). x.grant.ss == me) xs) ≡ sum_of (open_amounts me xs)
open_sum me [] = refl
open_sum me (x ∷ xs) = at (x.grant.ss == me) (open_sum me xs)
  where
    at : (b : Bool) → sum_by (λ (y : Open). length y.work.changed) (filter (λ (y : Open). y.grant.ss == me) xs) ≡ sum_of (open_amounts me xs) →
        sum_by (λ (y : Open). length y.work.changed) (cond b (x ∷ filter (λ (y : Open). y.grant.ss == me) xs) (filter (λ (y : Open). y.grant.ss == me) xs)) ≡ sum_of (cond b (record { key = x.grant.inst; amount = length x.work.changed } ∷ open_amounts me xs) (open_amounts me xs))
    at true later = sum_by-cons (λ (y : Open). length y.work.changed) x (filter (λ (y : Open). y.grant.ss == me) xs) ∙ ap (λ (n : ℕ). length x.work.changed + n) later
    at false later = later

pub open_single : (me : ℕ) (xs : List Open) → NamesApart xs → AreSingle same_serial serials_tell (open_amounts me xs)
open_single me [] k = tt
open_single me (x ∷ xs) k = at (x.grant.ss == me) (open_single me xs k.1)
  where
    others : (ys : List Open) → AllByRecursion (λ (y : Open). same_serial x.grant.inst y.grant.inst ≡ false) ys → AllByRecursion (λ (q : Amount Serial). same_serial x.grant.inst q.key ≡ false) (open_amounts me ys)
    others [] all = tt
    others (y ∷ ys) all = over (y.grant.ss == me) (others ys all.1)
      where
        over : (b : Bool) → AllByRecursion (λ (q : Amount Serial). same_serial x.grant.inst q.key ≡ false) (open_amounts me ys) → AllByRecursion (λ (q : Amount Serial). same_serial x.grant.inst q.key ≡ false) (cond b (record { key = y.grant.inst; amount = length y.work.changed } ∷ open_amounts me ys) (open_amounts me ys))
        over true later = (all.0, later)
        over false later = later

    at : (b : Bool) → AreSingle same_serial serials_tell (open_amounts me xs) → AreSingle same_serial serials_tell (cond b (record { key = x.grant.inst; amount = length x.work.changed } ∷ open_amounts me xs) (open_amounts me xs))
    at true later = (others xs k.0, later)
    at false later = later

-- what the instance of a name there has changed
abbrev pub changed_by : ℕ → Option Open → ℕ
changed_by me None = 0
changed_by me (Some x) = cond (x.grant.ss == me) (length x.work.changed) 0

pub open_at_key : (me : ℕ) (k : Serial) (xs : List Open) → NamesApart xs → amount_at same_serial serials_tell k (open_amounts me xs) ≡ changed_by me (find (is_named k) xs)
open_at_key me k [] apart = refl
open_at_key me k (x ∷ xs) apart = at (x.grant.ss == me) refl (is_named k x) refl (open_at_key me k xs apart.1)
  where
    -- no other has its name
    gone : is_named k x ≡ true → (ys : List Open) → AllByRecursion (λ (y : Open). same_serial x.grant.inst y.grant.inst ≡ false) ys → amount_at same_serial serials_tell k (open_amounts me ys) ≡ 0
    gone e [] all = refl
    gone e (y ∷ ys) all = over (y.grant.ss == me) (same_serial y.grant.inst k) refl (gone e ys all.1)
      where
        over : (a b : Bool) → same_serial y.grant.inst k ≡ b → amount_at same_serial serials_tell k (open_amounts me ys) ≡ 0 → amount_at same_serial serials_tell k (cond a (record { key = y.grant.inst; amount = length y.work.changed } ∷ open_amounts me ys) (open_amounts me ys)) ≡ 0
        over true true q later = absurd (true_false (sym (subst (λ (j : Serial). same_serial x.grant.inst j ≡ true) (same_serial_eq x.grant.inst k e ∙ sym (same_serial_eq y.grant.inst k q)) (same_serial_own x.grant.inst)) ∙ all.0))
        over true false q later = ap (λ (b : Bool). cond b (length y.work.changed) (amount_at same_serial serials_tell k (open_amounts me ys))) q ∙ later
        over false b q later = later

    at : (a : Bool) → (x.grant.ss == me) ≡ a → (b : Bool) → is_named k x ≡ b → amount_at same_serial serials_tell k (open_amounts me xs) ≡ changed_by me (find (is_named k) xs) →
        amount_at same_serial serials_tell k (cond a (record { key = x.grant.inst; amount = length x.work.changed } ∷ open_amounts me xs) (open_amounts me xs)) ≡ changed_by me (cond b (Some x) (find (is_named k) xs))
    at true p true q later = ap (λ (b : Bool). cond b (length x.work.changed) (amount_at same_serial serials_tell k (open_amounts me xs))) q ∙ sym (ap (λ (b : Bool). cond b (length x.work.changed) 0) p)
    at true p false q later = ap (λ (b : Bool). cond b (length x.work.changed) (amount_at same_serial serials_tell k (open_amounts me xs))) q ∙ later
    at false p true q later = gone q xs apart.0 ∙ sym (ap (λ (b : Bool). cond b (length x.work.changed) 0) p)
    at false p false q later = later

-- ---- the view's ----

abbrev pub view_amounts : ℕ → List Instance → List (Amount Serial)
view_amounts g [] = []
view_amounts g (i ∷ is) = cond (is_open_in g i) (record { key = i.inst; amount = length i.work.changed } ∷ view_amounts g is) (view_amounts g is)

pub view_sum : (g : ℕ) (is : List Instance) → total (changed_pages g) is ≡ sum_of (view_amounts g is)
view_sum g [] = refl
view_sum g (i ∷ is) = at (is_open_in g i) (view_sum g is)
  where
    none : (n : ℕ) → 0 + n ≡ n
    none n = omega arith

    at : (b : Bool) → total (changed_pages g) is ≡ sum_of (view_amounts g is) → cond b (length i.work.changed) 0 + total (changed_pages g) is ≡ sum_of (cond b (record { key = i.inst; amount = length i.work.changed } ∷ view_amounts g is) (view_amounts g is))
    at true later = ap (λ (n : ℕ). length i.work.changed + n) later
    at false later = none (total (changed_pages g) is) ∙ later

pub view_single : (g : ℕ) (is : List Instance) → AreApart instance_key is → AreSingle same_serial serials_tell (view_amounts g is)
view_single g [] k = tt
view_single g (i ∷ is) k = at (is_open_in g i) (view_single g is k.1)
  where
    others : (js : List Instance) → Every (λ (j : Instance). instance_key j ≡ instance_key i → ⊥) js → AllByRecursion (λ (q : Amount Serial). same_serial i.inst q.key ≡ false) (view_amounts g js)
    others [] all = tt
    others (j ∷ js) all = over (is_open_in g j) (others js all.1)
      where
        unlike : (b : Bool) → same_serial i.inst j.inst ≡ b → b ≡ false
        unlike false e = refl
        unlike true e = absurd (all.0 (ap serial_key (sym (same_serial_eq i.inst j.inst e))))

        over : (b : Bool) → AllByRecursion (λ (q : Amount Serial). same_serial i.inst q.key ≡ false) (view_amounts g js) → AllByRecursion (λ (q : Amount Serial). same_serial i.inst q.key ≡ false) (cond b (record { key = j.inst; amount = length j.work.changed } ∷ view_amounts g js) (view_amounts g js))
        over true later = (unlike (same_serial i.inst j.inst) refl, later)
        over false later = later

    at : (b : Bool) → AreSingle same_serial serials_tell (view_amounts g is) → AreSingle same_serial serials_tell (cond b (record { key = i.inst; amount = length i.work.changed } ∷ view_amounts g is) (view_amounts g is))
    at true later = (others is k.0, later)
    at false later = later

-- ---- both are the same ----

-- a release with a version is a release
with_released : (c : Config) (trace : List Line) (e : EpochId) (i : Serial) (stamp : Option Stamp) (a : Answer) → WasReleasedWith c trace e i stamp a → WasReleased trace e i
with_released c [] e i stamp a k = absurd k
with_released c (x ∷ older) e i stamp a (inr k) = inr (with_released c older e i stamp a k)
with_released c (x ∷ older) e i stamp a (inl k) = inl (over x.told k)
  where
    of : (r : Record) → ReleaseRecord c e i stamp a older r → EndRecord e i older r
    of (says.Release at inst file last) k = record { epoch_is = k.epoch_is; serial_is = k.serial_is }
    of _ k = absurd k

    over : (y : Told) → Printed (ReleaseRecord c e i stamp a) older y → Printed (EndRecord e i) older y
    over (Shown r) k = of r k
    over _ k = absurd k

same_key : (a b : Serial) → a.us < 256 → b.us < 256 → serial_key a ≡ serial_key b → a ≡ b
same_key a b p q e = (λ i. record { us = us_is i; serial = number_is i })
  where
    us_of : (m n u v : ℕ) → u < 256 → v < 256 → m * 256 + u ≡ n * 256 + v → u ≡ v
    us_of m n u v p q e = omega (arith, p, q, e)

    number_of : (m n u v : ℕ) → u < 256 → v < 256 → m * 256 + u ≡ n * 256 + v → m ≡ n
    number_of m n u v p q e = omega (arith, p, q, e)

    us_is : a.us ≡ b.us
    us_is = us_of a.serial b.serial a.us b.us p q e

    number_is : a.serial ≡ b.serial
    number_is = number_of a.serial b.serial a.us b.us p q e

module _ (c : Config) (trace : List Line) (f : Frame) (s : Store) (followed : IsFollowed c trace) (rests : RoomRests c trace) (fact : StoreFact c trace f s) (g : ℕ) where
  abbrev t : TreeState
  t = tree_of c f.epoch g (entries trace)

  -- what the tree has under the name of an instance of the view
  abbrev Under : Instance → Type 0
  Under i = is_open_in g i ≡ true → length i.work.changed ≡ changed_by f.me (instance_in t i.inst)

  not_open : (i : Serial) → ((x : Open) → instance_now c trace f.epoch i ≡ Some x → ⊥) → changed_by f.me (instance_in t i) ≡ 0
  not_open i shut = at (instance_in t i) refl
    where
      at : (o : Option Open) → instance_in t i ≡ o → changed_by f.me o ≡ 0
      at None k = refl
      at (Some x) k = absurd (shut x (open_now c trace followed f.epoch g i x k))

  -- an instance that has changed nothing
  unchanged : (i : Serial) (x : Open) → instance_now c trace f.epoch i ≡ Some x → x.work.changed ≡ [] → changed_by f.me (instance_in t i) ≡ 0
  unchanged i x now none = at (instance_in t i) refl
    where
      zero_if : (b : Bool) (n : ℕ) → n ≡ 0 → cond b n 0 ≡ 0
      zero_if true n e = e
      zero_if false n e = refl

      at : (o : Option Open) → instance_in t i ≡ o → changed_by f.me o ≡ 0
      at None k = refl
      at (Some y) k = zero_if (y.grant.ss == f.me) (length y.work.changed) (ap (λ (z : Open). length z.work.changed) (some_same y x (sym (open_now c trace followed f.epoch g i y k) ∙ now)) ∙ ap length none)

  released_of : (i : Serial) → WasReleased trace f.epoch i → (x : Open) → instance_now c trace f.epoch i ≡ Some x → ⊥
  released_of i was x now = released_shut c trace followed f.epoch i x was now

  by_stage : (i : Instance) → InstanceFact c trace f i → (st : Stage) → StageFact c trace f i st → is_open st && (i.file.group == g) ≡ true → length i.work.changed ≡ changed_by f.me (instance_in t i.inst)
  by_stage i k stage.Running (runs, settled, unshut) open_here = over runs
    where
      over : RunsAs c trace f i → length i.work.changed ≡ changed_by f.me (instance_in t i.inst)
      over (inl (x, w)) = ap length (ap (λ (y : Work). y.changed) (sym w.work_is)) ∙ sym (ap (changed_by f.me) here ∙ ap (λ (b : Bool). cond b (length x.work.changed) 0) place)
        where
          here : instance_in t i.inst ≡ Some x
          here = subst (λ (m : ℕ). instance_in (tree_of c f.epoch m (entries trace)) i.inst ≡ Some x) (ap (λ (y : FileId). y.group) w.file_is ∙ equal i.file.group g open_here) (open_in_group c trace followed f.epoch i.inst x w.open_at.found)

          place : (x.grant.ss == f.me) ≡ true
          place = subst (λ (m : ℕ). (x.grant.ss == m) ≡ true) w.open_at.place (equal_self x.grant.ss)
      over (inr w) = ap (λ (y : Work). length y.changed) w.fresh ∙ sym (not_open i.inst (λ x now. w.unnamed (open_named c trace f.epoch i.inst x now)))
  by_stage i k (stage.Closing made a) (closes, clean, shut) open_here = ap length clean.changed ∙ sym (over closes.ends)
    where
      over : WasReleasedWith c trace f.epoch i.inst (stamp_made made) (close_answer a) ⊎ EndsAs c trace f i made a → changed_by f.me (instance_in t i.inst) ≡ 0
      over (inl was) = not_open i.inst (released_of i.inst (with_released c trace f.epoch i.inst (stamp_made made) (close_answer a) was))
      over (inr w) = unchanged i.inst w.now.at w.now.closes.open_at.found w.unchanged
  by_stage i k (stage.Closed a) facts open_here = absurd (true_false (sym open_here))

  all_under : (is : List Instance) → Every (InstanceFact c trace f) is → AllByRecursion Under is
  all_under [] all = tt
  all_under (i ∷ is) all = ((λ open_here. by_stage i all.0 i.stage all.0.stage open_here), all_under is all.1)

  -- none of the name is open here
  abbrev Closed : Serial → Instance → Type 0
  Closed k i = i.inst ≡ k → is_open_in g i ≡ true → ⊥

  -- the view has under a name what the tree has, or nothing, and none of the name is open
  view_at : (k : Serial) (is : List Instance) → AllByRecursion Under is → (amount_at same_serial serials_tell k (view_amounts g is) ≡ changed_by f.me (instance_in t k)) ⊎ (AllByRecursion (Closed k) is × (amount_at same_serial serials_tell k (view_amounts g is) ≡ 0))
  view_at k [] all = inr (tt, refl)
  view_at k (i ∷ is) all = at (is_open_in g i) refl (same_serial i.inst k) refl (view_at k is all.1)
    where
      at : (a : Bool) → is_open_in g i ≡ a → (b : Bool) → same_serial i.inst k ≡ b → (amount_at same_serial serials_tell k (view_amounts g is) ≡ changed_by f.me (instance_in t k)) ⊎ (AllByRecursion (Closed k) is × (amount_at same_serial serials_tell k (view_amounts g is) ≡ 0)) →
          (amount_at same_serial serials_tell k (cond a (record { key = i.inst; amount = length i.work.changed } ∷ view_amounts g is) (view_amounts g is)) ≡ changed_by f.me (instance_in t k))
          ⊎ (AllByRecursion (Closed k) (i ∷ is) × (amount_at same_serial serials_tell k (cond a (record { key = i.inst; amount = length i.work.changed } ∷ view_amounts g is) (view_amounts g is)) ≡ 0))
      at true p true q later = inl (ap (λ (b : Bool). cond b (length i.work.changed) (amount_at same_serial serials_tell k (view_amounts g is))) q ∙ (all.0 p ∙ ap (λ (j : Serial). changed_by f.me (instance_in t j)) (same_serial_eq i.inst k q)))
      at true p false q (inl e) = inl (ap (λ (b : Bool). cond b (length i.work.changed) (amount_at same_serial serials_tell k (view_amounts g is))) q ∙ e)
      at true p false q (inr e) = inr (((λ same open_here. true_false (sym (subst (λ (j : Serial). same_serial i.inst j ≡ true) same (same_serial_own i.inst)) ∙ q)), e.0), ap (λ (b : Bool). cond b (length i.work.changed) (amount_at same_serial serials_tell k (view_amounts g is))) q ∙ e.1)
      at false p b q (inl e) = inl e
      at false p b q (inr e) = inr (((λ same open_here. true_false (sym open_here ∙ p)), e.0), e.1)

  -- a row that is found is of the table
  row_found : (k : ℕ) (is : List Instance) (y : Instance) (P : Instance → Type 0) (Q : Instance → Type 0) → row instance_key k is ≡ Some y → Every P is → AllByRecursion Q is → (instance_key y ≡ k) × (P y × Q y)
  row_found k [] y P Q e all others = absurd (none_some y e)
  row_found k (i ∷ is) y P Q e all others = at (instance_key i == k) refl e (λ l. row_found k is y P Q l all.1 others.1)
    where
      at : (b : Bool) → (instance_key i == k) ≡ b → (elim b as (λ (z : Bool). Option Instance) [ true ↦ Some i | false ↦ row instance_key k is ]) ≡ Some y → (row instance_key k is ≡ Some y → (instance_key y ≡ k) × (P y × Q y)) → (instance_key y ≡ k) × (P y × Q y)
      at true p l later = subst (λ (z : Instance). (instance_key z ≡ k) × (P z × Q z)) (some_same i y l) (equal (instance_key i) k p, (all.0, others.0))
      at false p l later = later l

  -- an instance that the tree has here, and the view hasn't open, has changed nothing
  module _ (k : Serial) (x : Open) (found : instance_in t k ≡ Some x) (here : x.grant.ss ≡ f.me) (closed : AllByRecursion (Closed k) s.instances) where
    now : instance_now c trace f.epoch k ≡ Some x
    now = open_now c trace followed f.epoch g k x found

    none_by_stage : (y : Instance) → y.inst ≡ k → Closed k y → (st : Stage) → st ≡ y.stage → StageFact c trace f y st → x.work.changed ≡ []
    none_by_stage y same shut stage.Running is (runs, settled, unshut) = over runs
      where
        over : RunsAs c trace f y → x.work.changed ≡ []
        over (inl (z, w)) = absurd (shut same open_here)
          where
            one : z ≡ x
            one = some_same z x (sym w.open_at.found ∙ subst (λ (j : Serial). instance_now c trace f.epoch j ≡ Some x) (sym same) now)

            group_is : y.file.group ≡ g
            group_is = ap (λ (q : FileId). q.group) (sym w.file_is) ∙ (ap (λ (q : Open). q.grant.file.group) one ∙ ((open_seat c trace followed f.epoch k x now).group_is ∙ open_group c trace followed f.epoch g k x found))

            open_here : is_open y.stage && (y.file.group == g) ≡ true
            open_here = subst (λ (q : Stage). is_open q && (y.file.group == g) ≡ true) is (subst (λ (m : ℕ). (y.file.group == m) ≡ true) group_is (equal_self y.file.group))
        over (inr w) = absurd (w.unnamed (subst (λ (j : Serial). WasNamed trace f.epoch j) (sym same) (open_named c trace f.epoch k x now)))
    none_by_stage y same shut (stage.Closing made a) is (closes, clean, was) = over closes.ends
      where
        over : WasReleasedWith c trace f.epoch y.inst (stamp_made made) (close_answer a) ⊎ EndsAs c trace f y made a → x.work.changed ≡ []
        over (inl w) = absurd (released_of k (subst (λ (j : Serial). WasReleased trace f.epoch j) same (with_released c trace f.epoch y.inst (stamp_made made) (close_answer a) w)) x now)
        over (inr w) = ap (λ (q : Open). q.work.changed) (some_same x w.now.at (sym now ∙ subst (λ (j : Serial). instance_now c trace f.epoch j ≡ Some w.now.at) same w.now.closes.open_at.found)) ∙ w.unchanged
    none_by_stage y same shut (stage.Closed a) is (ended, clean, was) = absurd (released_of k (subst (λ (j : Serial). WasReleased trace f.epoch j) same (with_released c trace f.epoch y.inst ended.0 (close_answer a) ended.1)) x now)

    granted_unchanged : ((file : FileId) → WasBegun trace f.me f.epoch k file → ⊥) → x.work.changed ≡ []
    granted_unchanged unbegun = over (waits_as_granted c trace followed (commits_new c trace followed rests.laws.once) f.epoch so.call so.request k x.grant.mode x.grant.file so.stamp x.grant.ss so.was)
      where
        so : GrantedSo trace f.epoch k x.grant
        so = open_granted c trace followed f.epoch g k x found

        over : WasBegun trace x.grant.ss f.epoch k x.grant.file ⊎ IsAsGranted c trace f.epoch k x.grant.mode x.grant.file so.stamp x.grant.ss → x.work.changed ≡ []
        over (inl w) = absurd (unbegun x.grant.file (subst (λ (m : ℕ). WasBegun trace m f.epoch k x.grant.file) here w))
        over (inr w) = ap (λ (q : Open). q.work.changed) (some_same x w.at (sym now ∙ w.open_at.found)) ∙ ap (λ (q : Work). q.changed) w.work_is

    nothing_changed : x.work.changed ≡ []
    nothing_changed = at (instance_of s k) refl
      where
        of_row : (y : Instance) → instance_of s k ≡ Some y → (instance_key y ≡ serial_key k) × (InstanceFact c trace f y × Closed k y) → x.work.changed ≡ []
        of_row y e w = none_by_stage y (same_key y.inst k (low y.inst.us w.1.0.user) (open_user c trace followed rests.sites f.epoch g k x found) w.0) w.1.1 y.stage refl w.1.0.stage
          where
            low : (n : ℕ) → n ≤ sites_max → n < 256
            low n p = omega (arith, p)

        at : (o : Option Instance) → instance_of s k ≡ o → x.work.changed ≡ []
        at None e = granted_unchanged (λ file w. absurd_row e (fact.has k file w))
          where
            absurd_row : instance_of s k ≡ None → (y : Instance) × (instance_of s k ≡ Some y) → ⊥
            absurd_row e w = none_some w.0 (sym e ∙ w.1)
        at (Some y) e = of_row y e (row_found (serial_key k) s.instances y (InstanceFact c trace f) (Closed k) e fact.instances closed)

  same_at : (k : Serial) → amount_at same_serial serials_tell k (view_amounts g s.instances) ≡ changed_by f.me (instance_in t k)
  same_at k = over (view_at k s.instances (all_under s.instances fact.instances))
    where
      zero : AllByRecursion (Closed k) s.instances → (o : Option Open) → instance_in t k ≡ o → changed_by f.me o ≡ 0
      zero closed None e = refl
      zero closed (Some x) e = at (x.grant.ss == f.me) refl
        where
          at : (b : Bool) → (x.grant.ss == f.me) ≡ b → cond b (length x.work.changed) 0 ≡ 0
          at true p = ap length (nothing_changed k x e (equal x.grant.ss f.me p) closed)
          at false p = refl

      over : (amount_at same_serial serials_tell k (view_amounts g s.instances) ≡ changed_by f.me (instance_in t k)) ⊎ (AllByRecursion (Closed k) s.instances × (amount_at same_serial serials_tell k (view_amounts g s.instances) ≡ 0)) → amount_at same_serial serials_tell k (view_amounts g s.instances) ≡ changed_by f.me (instance_in t k)
      over (inl e) = e
      over (inr e) = e.1 ∙ sym (zero e.0 (instance_in t k) refl)

  pub changed_same : total (changed_pages g) s.instances ≡ tree_changed t f.me
  changed_same = view_sum g s.instances
      ∙ (same_sum same_serial serials_tell (view_amounts g s.instances) (open_amounts f.me t.instances) (view_single g s.instances fact.apart) (open_single f.me t.instances apart) (λ k. same_at k ∙ sym (open_at_key f.me k t.instances apart))
      ∙ sym (open_sum f.me t.instances))
    where
      apart : NamesApart t.instances
      apart = rows_names_apart c (entries trace) (followed_rows c trace followed) f.epoch g
