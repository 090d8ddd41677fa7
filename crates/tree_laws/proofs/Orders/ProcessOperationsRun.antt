-- What a site has asked of an open instance, line by line.
use Rattle.std.proofs.Common.{◌≡◌, ℕ, ◌+◌, ◌==◌, Bool, true, false, cond, ◌&&◌, List, [], ◌∷◌, ◌++◌, Option, Some, None, refl, sym, ◌∙◌, ap, subst, arith, ◌⊎◌, inl, inr}
use Rattle.std.proofs.lemmas.Bool.Decides.{nat_tests}
use Rattle.std.specs.Prelude.{nat_lt}
use Rattle.plain_facts.proofs.Numbers.{equal, equal_self}
use Rattle.plain_facts.proofs.Options.{none_some, some_same}
use Rattle.plain_facts.proofs.Tests.{true_false}
use Rattle.locus_ids.specs.declared.config.Config.{Config}
use Rattle.locus_ids.specs.declared.ids.CallId.{CallId}
use Rattle.locus_ids.specs.declared.ids.EpochId.{EpochId}
use Rattle.locus_ids.specs.declared.ids.FileId.{FileId}
use Rattle.locus_ids.specs.declared.ids.Mode.{Mode}
use Rattle.locus_ids.specs.declared.ids.Serial.{Serial}
use Rattle.locus_ids.specs.declared.ids.Stamp.{Stamp}
use Rattle.trace_book.specs.Same.{same_epoch, same_serial}
use Rattle.trace_book.specs.declared.operation.Op.{Op}
use Rattle.trace_book.specs.declared.operation.Outcome.{Outcome}
use Rattle.trace_book.specs.declared.operation.What.{What}
use Rattle.trace_book.specs.declared.record.Record.{Record}
use Rattle.trace_book.specs.declared.record.Record.TheVariants as says
use Rattle.call_rules.specs.declared.want.Want.TheVariants as want
use Rattle.role_steps.specs.Views.{Told, Shown, Takes, LooksAgain}
use Rattle.the_run.specs.Worlds.{Line}
use Rattle.tree_model.specs.declared.instance.Instance.{Instance}
use Rattle.tree_model.specs.Calls.{granted_to}
use Rattle.tree_model.specs.Epochs.{boot_of}
use Rattle.tree_model.specs.Histories.{history}
use Rattle.tree_model.specs.Tree.{tree_of, opened, grant_of}
use Rattle.lawful_trace.specs.Progress.{outcome_answer}
use Rattle.lawful_trace.specs.Tables.{call_of_act}
use Rattle.lawful_trace.specs.TreeRows.{IsCallIn, granted_group}
use Rattle.tree_laws.specs.Printed.{entries, onto_entries}
use Rattle.tree_laws.specs.Calls.{log, heard, Asks}
use Rattle.tree_laws.specs.Following.{MayTell, IsFollowed}
use Rattle.tree_laws.specs.Holding.{has_instances, IsOf}
use Rattle.tree_laws.specs.Instances.{instance_now}
use Rattle.tree_laws.specs.Past.{WasNamed, Printed, EndRecord, WasReleased}
use Rattle.tree_laws.specs.Serials.{asked_now, is_op_on, ops_asked}
use Rattle.tree_laws.proofs.Asking.{StepOf, Turns, AsksStill, asks_stays, not_longer}
use Rattle.tree_laws.proofs.Awaiting.{IsHeldBy, all_have, by_owner, held_named}
use Rattle.tree_laws.proofs.Counting.{IsNow, asked_same}
use Rattle.tree_laws.proofs.Fresh.{IsNamed}
use Rattle.tree_laws.proofs.Grants.{open_named}
use Rattle.tree_laws.proofs.Kinship.{StaysOpen, Ends, GoesOnTold, open_stays}
use Rattle.tree_laws.proofs.CarriedLooks.{one_epoch}
use Rattle.tree_laws.proofs.Names.{same_epoch_eq, same_epoch_own, same_serial_eq, same_serial_own}
use Rattle.tree_laws.proofs.OfOwn.{asks_of_own}
use Rattle.tree_laws.proofs.OneBoot.{one_boot}
use Rattle.tree_laws.proofs.Opened.{ActsOn, CommitsOn}
use Rattle.tree_laws.proofs.Owners.{granted_named, granted_same}
use Rattle.tree_laws.proofs.Scripts.{in_stays}
use Rattle.tree_laws.specs.Orders.ProcessOperations.{Nobody, OpsAre}
use Rattle.tree_laws.proofs.Orders.ProcessCounted.{acted_more, acts_now, two_ask, asked_older, ActsRecord, step_acts}
use Rattle.tree_laws.proofs.Orders.ProcessGranting.{GrantIs, granted_is, held_us}
use Rattle.tree_laws.proofs.Orders.ProcessOnce.{GrantsNow, counts_up, granted_split, unnamed_in_boot}
use Rattle.tree_laws.proofs.Orders.ProcessOpen.{OpenAs, granted_open, granted_begins}
use Rattle.tree_laws.proofs.Orders.ProcessTaken.{back_in}
use Rattle.tree_laws.proofs.Orders.ProcessOperations.{IsTurn, op_is, accept_turn, take_turn, ops_turn}

abbrev With : ℕ → Told → List Line → List Line
With n x older = record { number = n; told = x } ∷ older

-- ---- an instance of which operations were asked was granted in the boot ----

record NamedInBoot (t : List Line) (i : Serial) : Type 0 where
  epoch : EpochId
  granted : CallId
  is_granted : granted_to (entries t) epoch i ≡ Some granted
  now : IsNow t granted

abbrev Unasked : Config → List Line → Serial → Type 0
Unasked c t i = (ops_asked c t i ≡ 0) ⊎ NamedInBoot t i

-- whoever has it is of the boot
holder_named : (c : Config) (t : List Line) (d : CallId) (i : Serial) → IsFollowed c t → IsNamed (entries t) d → d.boot ≡ boot_of (entries t) d.site → has_instances c t d i ≡ true → NamedInBoot t i
holder_named c t d i h named now has = record { epoch = held.epoch; granted = j.0; is_granted = j.1; now = one_boot c t held.epoch j.0 d h by.inside held.inside site ∙ (now ∙ ap (boot_of (entries t)) (sym site)) }
  where
    held : IsHeldBy t d i
    held = (all_have c t h).held d i named has

    j : (j : CallId) × (granted_to (entries t) held.epoch i ≡ Some j)
    j = held_named t d i held.epoch held held.inside

    by : GrantIs t held.epoch i j.0
    by = granted_is c t h held.epoch i j.0 j.1

    site : j.0.site ≡ d.site
    site = sym by.us_is ∙ held_us c t h d i held

granted_more : (c : Config) (n : ℕ) (x : Told) (older : List Line) (e : EpochId) (i : Serial) (g : CallId) → MayTell c older x → granted_to (entries older) e i ≡ Some g → granted_to (onto_entries n x (entries older)) e i ≡ Some g
granted_more c n (Shown r) older e i g may k = granted_same c older n r e i g may k
granted_more c n _ older e i g may k = k

unasked_turn : (c : Config) (n : ℕ) (x : Told) (older : List Line) (it : CallId) (i : Serial) → IsFollowed c older → MayTell c older x → IsTurn c n x older it i → Unasked c older i → Unasked c (With n x older) i
unasked_turn c n x older it i h may t k = over ((it.site == i.us) && is_op_on i (asked_now c (With n x older) it)) refl k
  where
    second : (a b : Bool) → a && b ≡ true → b ≡ true
    second true b z = z
    second false b z = absurd (true_false (sym z))

    over : (b : Bool) → ((it.site == i.us) && is_op_on i (asked_now c (With n x older) it)) ≡ b → Unasked c older i → Unasked c (With n x older) i
    over true f k = (let o : (o : Op) × (asked_now c (With n x older) it ≡ want.Do i o) = op_is i (asked_now c (With n x older) it) (second (it.site == i.us) (is_op_on i (asked_now c (With n x older) it)) f) in
        inr (holder_named c (With n x older) it i (may, h) t.named (t.turned.now ∙ sym (t.turned.boots it.site)) (subst (IsOf (has_instances c (With n x older) it)) o.1 (asks_of_own c (With n x older) it (may, h) t.named))))
    over false f (inl none) = inl (t.count ∙ (ap (λ (b : Bool). cond b (ops_asked c older i + 1) (ops_asked c older i)) f ∙ none))
    over false f (inr k) = inr (record { epoch = k.epoch; granted = k.granted; is_granted = granted_more c n x older k.epoch i k.granted may k.is_granted; now = k.now ∙ sym (t.turned.boots k.granted.site) })

unasked_told : (c : Config) (n : ℕ) (x : Told) (older : List Line) (i : Serial) → IsFollowed c older → MayTell c older x → Unasked c older i → Unasked c (With n x older) i
unasked_told c n (Shown (says.Accept s process new words)) older i h may k = unasked_turn c n (Shown (says.Accept s process new words)) older new i h may (accept_turn c n s process new words older i h may) k
unasked_told c n (Takes s it request times a) older i h may k = unasked_turn c n (Takes s it request times a) older it i h may (take_turn c n s it request times a older i h may) k
unasked_told c n (Shown (says.Up s boot)) older i h may k = over (s == i.us) refl k
  where
    apart : (p q : ℕ) → (p == q) ≡ false → p ≡ q → ⊥
    apart p q f e = true_false (sym (ap (λ (m : ℕ). p == m) (sym e) ∙ equal_self p) ∙ f)

    over : (b : Bool) → (s == i.us) ≡ b → Unasked c older i → (cond b 0 (ops_asked c older i) ≡ 0) ⊎ NamedInBoot (With n (Shown (says.Up s boot)) older) i
    over true f k = inl refl
    over false f (inl none) = inl none
    over false f (inr k) = inr (record { epoch = k.epoch; granted = k.granted; is_granted = k.is_granted; now = k.now ∙ sym (ap (λ (b : Bool). cond b boot (boot_of (entries older) k.granted.site)) (ap (λ (m : ℕ). s == m) (sym (granted_is c older h k.epoch i k.granted k.is_granted).us_is) ∙ f)) })
unasked_told c n (Shown r) older i h may (inl none) = inl none
unasked_told c n (Shown r) older i h may (inr k) = inr (record { epoch = k.epoch; granted = k.granted; is_granted = granted_more c n (Shown r) older k.epoch i k.granted may k.is_granted; now = k.now })
unasked_told c n x older i h may (inl none) = inl none
unasked_told c n x older i h may (inr k) = inr (record { epoch = k.epoch; granted = k.granted; is_granted = granted_more c n x older k.epoch i k.granted may k.is_granted; now = k.now })

unasked : (c : Config) (t : List Line) → IsFollowed c t → (i : Serial) → Unasked c t i
unasked c [] h i = inl refl
unasked c (x ∷ older) h i = unasked_told c x.number x.told older i h.1 h.0 (unasked c older h.1 i)

-- ---- the instance is granted ----

-- nothing of it was asked before
fresh_ops : (c : Config) (older : List Line) (e : EpochId) (i : Serial) (g : CallId) → IsFollowed c older → GrantsNow c older e i g → IsNow older g → i.us ≡ g.site → ops_asked c older i ≡ 0
fresh_ops c older e i g h k now us = over (unasked c older h i)
  where
    over : Unasked c older i → ops_asked c older i ≡ 0
    over (inl none) = none
    over (inr b) = absurd (k.new (granted_named older e i b.granted (subst (λ (y : EpochId). granted_to (entries older) y i ≡ Some b.granted) (sym there) b.is_granted)))
      where
        by : GrantIs older b.epoch i b.granted
        by = granted_is c older h b.epoch i b.granted b.is_granted

        site : g.site ≡ b.granted.site
        site = sym us ∙ by.us_is

        same : g ≡ b.granted
        same = unnamed_in_boot c older h b.epoch i b.granted g b.is_granted b.now (k.inside.accepted, k.inside.named) site (now ∙ (ap (boot_of (entries older)) site ∙ sym b.now)) k.opens k.serial

        there : e ≡ b.epoch
        there = one_epoch older e b.epoch b.granted (subst (IsCallIn (entries older) e) same k.inside) by.inside

-- nobody asks anything of what isn't named
unnamed_nobody : (c : Config) (older : List Line) (e : EpochId) (i : Serial) → IsFollowed c older → (WasNamed older e i → ⊥) → Nobody c older e i
unnamed_nobody c older e i h new d o inside asks = new (granted_named older e i j.0 j.1)
  where
    has : has_instances c older d i ≡ true
    has = subst (IsOf (has_instances c older d)) asks.asked (asks_of_own c older d h (inside.accepted, inside.named))

    j : (j : CallId) × (granted_to (entries older) e i ≡ Some j)
    j = held_named older d i e ((all_have c older h).held d i (inside.accepted, inside.named) has) inside

-- ---- a line that is no turn ----

look_not_do : (i : Serial) (o : Op) (f : FileId) (w : What) → want.Look f w ≡ want.Do i o → ⊥
look_not_do i o f w e = cc

-- a line at which no call begins to ask
record IsQuiet (c : Config) (n : ℕ) (x : Told) (older : List Line) : Type 0 where
  named : (d : CallId) → IsNamed (entries (With n x older)) d → IsNamed (entries older) d
  turns : (d : CallId) (i : Serial) (o : Op) → Asks c (With n x older) d (want.Do i o) → IsNamed (entries older) d → Turns x d → ⊥

module _ (c : Config) (n : ℕ) (x : Told) (older : List Line) (h : IsFollowed c older) (may : MayTell c older x) (q : IsQuiet c n x older) (e : EpochId) (i : Serial) where
  before : (d : CallId) (o : Op) → IsCallIn (entries (With n x older)) e d → Asks c (With n x older) d (want.Do i o) → IsCallIn (entries older) e d × Asks c older d (want.Do i o)
  before d o inside asks = (back_in c n x older e d h may inside named, over (asked_older c n x older d i o h may named asks))
    where
      named : IsNamed (entries older) d
      named = q.named d (inside.accepted, inside.named)

      over : Asks c older d (want.Do i o) ⊎ Turns x d → Asks c older d (want.Do i o)
      over (inl k) = k
      over (inr turn) = absurd (q.turns d i o asks named turn)

  nobody_stays : Nobody c older e i → Nobody c (With n x older) e i
  nobody_stays k d o inside asks = (let b : IsCallIn (entries older) e d × Asks c older d (want.Do i o) = before d o inside asks in k d o b.0 b.1)

  -- the count stays, and so does the work; nobody's operation is done
  ops_still : (at new : Instance) → ops_asked c (With n x older) i ≡ ops_asked c older i → new.work.ops ≡ at.work.ops → ((d : CallId) (o : Op) → IsCallIn (entries older) e d → Asks c older d (want.Do i o) → StepOf older x d → ⊥) → OpsAre c older e i at → OpsAre c (With n x older) e i new
  ops_still at new count work none (inl k) = inl (record { count = count ∙ (k.count ∙ sym work); nobody = nobody_stays k.nobody })
  ops_still at new count work none (inr k) = inr (record { count = count ∙ (k.count ∙ ap (λ (m : ℕ). m + 1) (sym work)); somebody = record { call = k.somebody.call; operation = k.somebody.operation; inside = in_stays c n x older e k.somebody.call h may k.somebody.inside; asks = over (asks_stays c n x older k.somebody.call (want.Do i k.somebody.operation) h may (k.somebody.inside.accepted, k.somebody.inside.named) k.somebody.asks) } })
    where
      over : AsksStill c older n x k.somebody.call (want.Do i k.somebody.operation) ⊎ StepOf older x k.somebody.call → Asks c (With n x older) k.somebody.call (want.Do i k.somebody.operation)
      over (inl a) = a.asks
      over (inr step) = absurd (none k.somebody.call k.somebody.operation k.somebody.inside k.somebody.asks step)

-- ---- an operation is done ----

ops_act : (c : Config) (n : ℕ) (older : List Line) (e : EpochId) (i : Serial) (number : ℕ) (o : Op) (result : Outcome) (g : CallId) (at new : Instance) → IsFollowed c older → MayTell c older (Shown (says.Act e i number o result)) → granted_to (entries older) e i ≡ Some g → instance_now c older e i ≡ Some at → instance_now c (With n (Shown (says.Act e i number o result)) older) e i ≡ Some new →
    IsQuiet c n (Shown (says.Act e i number o result)) older → OpsAre c older e i at → OpsAre c (With n (Shown (says.Act e i number o result)) older) e i new
ops_act c n older e i number o result g at new h may granted found later q k = over k
  where
    x : Told
    x = Shown (says.Act e i number o result)

    inside : IsCallIn (entries older) e may.in_time.call
    inside = subst (IsCallIn (entries older) e) (some_same may.row.step.call may.in_time.call (sym may.row.step.owned ∙ may.in_time.owner)) may.row.step.step

    work : new.work.ops ≡ at.work.ops + 1
    work = ap (λ (y : Instance). y.work.ops) (some_same new _ (sym later ∙ acts_now c n older e i number o result g at h granted found)) ∙ acted_more (history c (entries older)) (tree_of c e (granted_group (entries older) e i) (entries older)) o result at

    nobody : Nobody c (With n x older) e i
    nobody d p within asks = not_longer (log older d) (heard c older d) (outcome_answer result) (sym b.1.nothing_waits) (sym asks.nothing_waits ∙ by_owner (call_of_act (entries older) e i number) d (heard c older d ++ outcome_answer result ∷ []) (heard c older d) (may.in_time.owner ∙ ap Some (sym same)))
      where
        b : IsCallIn (entries older) e d × Asks c older d (want.Do i p)
        b = before c n x older h may q e i d p within asks

        same : d ≡ may.in_time.call
        same = two_ask c older e i d may.in_time.call p o h b.0 inside b.1 may.in_time.asks

    over : OpsAre c older e i at → OpsAre c (With n x older) e i new
    over (inl a) = absurd (a.nobody may.in_time.call o inside may.in_time.asks)
    over (inr a) = inl (record { count = a.count ∙ sym work; nobody = nobody })

-- ---- line by line ----

-- what a site has asked of each open instance of its boot
abbrev AllOps : Config → List Line → Type 0
AllOps c t = (e : EpochId) (i : Serial) (g : CallId) → granted_to (entries t) e i ≡ Some g → IsNow t g → (WasReleased t e i → ⊥) → (at : Instance) → instance_now c t e i ≡ Some at → OpsAre c t e i at

abbrev ActsTold : EpochId → Serial → Told → Type 0
ActsTold e i (Shown r) = ActsRecord e i r
ActsTold e i _ = ⊥

-- no operation of it is done: its work goes on by commits alone
work_same : (c : Config) (older : List Line) (e : EpochId) (i : Serial) (old new : Instance) (x : Told) → (ActsTold e i x → ⊥) → GoesOnTold c older e i old new x → new.work.ops ≡ old.work.ops
work_same c older e i old new (Shown r) other (inl same) = ap (λ (y : Instance). y.work.ops) same
work_same c older e i old new (Shown r) other (inr (inl acts)) = over r other acts
  where
    over : (r : Record) → (ActsRecord e i r → ⊥) → ActsOn (history c (entries older)) (tree_of c e (granted_group (entries older) e i) (entries older)) e i old new r → new.work.ops ≡ old.work.ops
    over (says.Act at inst number what result) other a = absurd (other (record { epoch_is = a.0.0; serial_is = a.0.1 }))
    over _ other a = absurd a
work_same c older e i old new (Shown r) other (inr (inr commits)) = over r commits
  where
    over : (r : Record) → CommitsOn (tree_of c e (granted_group (entries older) e i) (entries older)) old new r → new.work.ops ≡ old.work.ops
    over (says.Commit f s stamp parents content) a = ap (λ (y : Instance). y.work.ops) a.2
    over _ a = absurd a
work_same c older e i old new x other same = ap (λ (y : Instance). y.work.ops) same

module _ (c : Config) (n : ℕ) (x : Told) (older : List Line) (h : IsFollowed c older) (may : MayTell c older x) (k : AllOps c older) (e : EpochId) (i : Serial) (g : CallId) (granted : granted_to (entries older) e i ≡ Some g) (now : IsNow (With n x older) g) (live : WasReleased (With n x older) e i → ⊥) where
  by : GrantIs older e i g
  by = granted_is c older h e i g granted

  was : OpenAs c older e g i by.mode by.file by.place
  was = granted_open c older h e g by.request i by.mode by.file by.stamp by.place by.was_granted (λ r. live (inr r))

  ops_was : OpsAre c older e i was.at
  ops_was = k e i g granted (counts_up c n x older g h may (by.inside.accepted, by.inside.named) now).0 (λ r. live (inr r)) was.at was.found

  ended : (y : Told) → (Printed (EndRecord e i) older y → ⊥) → Ends e i y → ⊥
  ended (Shown (says.Release at inst f stamp)) live end = live (record { epoch_is = end.0; serial_is = end.1 })
  ended _ live end = end

  -- another line than an operation of it
  ops_rest : IsQuiet c n x older → ops_asked c (With n x older) i ≡ ops_asked c older i → (ActsTold e i x → ⊥) → (at : Instance) → instance_now c (With n x older) e i ≡ Some at → OpsAre c (With n x older) e i at
  ops_rest q count other at found = over (open_stays c older n x e i was.at may (open_named c older e i was.at was.found) was.found)
    where
      none : (y : Told) → MayTell c older y → (ActsTold e i y → ⊥) → (d : CallId) (o : Op) → IsCallIn (entries older) e d → Asks c older d (want.Do i o) → StepOf older y d → ⊥
      none (Shown r) m other d o inside asks step = other (step_acts c older r e i d o inside asks m step)
      none _ m other d o inside asks step = step

      over : StaysOpen c older n x e i was.at ⊎ Ends e i x → OpsAre c (With n x older) e i at
      over (inl s) = ops_still c n x older h may q e i was.at at count (ap (λ (y : Instance). y.work.ops) (some_same at s.new (sym found ∙ s.found)) ∙ work_same c older e i was.at s.new x other s.goes) (none x may other) ops_was
      over (inr end) = absurd (ended x (λ z. live (inl z)) end)

quiet_again : (c : Config) (n s : ℕ) (it : CallId) (request times : ℕ) (older : List Line) → IsFollowed c older → MayTell c older (LooksAgain s it request times) → IsQuiet c n (LooksAgain s it request times) older
quiet_again c n s it request times older h may = record { named = λ d k. k; turns = λ d i o asks named turn. look_not_do i o may.file may.what (sym may.looks ∙ (ap (asked_now c older) turn ∙ (sym (asked_same c older n (LooksAgain s it request times) d h may named refl) ∙ asks.asked))) }

ops_grant : (c : Config) (n : ℕ) (at : EpochId) (call : CallId) (request : ℕ) (inst : Serial) (m : Mode) (f : FileId) (stamp : Option Stamp) (ss : ℕ) (older : List Line) → IsFollowed c older → MayTell c older (Shown (says.Grant at call request inst m f stamp ss)) → AllOps c older → AllOps c (With n (Shown (says.Grant at call request inst m f stamp ss)) older)
ops_grant c n at call request inst m f stamp ss older h may k e i g granted now live it found = over (same_epoch at e) (same_serial inst i) refl refl
  where
    x : Told
    x = Shown (says.Grant at call request inst m f stamp ss)

    quiet : IsQuiet c n x older
    quiet = record { named = λ d k. k; turns = λ d i o asks named turn. turn }

    -- what is granted now has done nothing
    new : at ≡ e → inst ≡ i → OpsAre c (With n x older) e i it
    new there is = split (granted_split c n x older e i g may granted)
      where
        zero : it.work.ops ≡ 0
        zero = ap (λ (y : Instance). y.work.ops) (some_same it _ (sym found ∙ subst (λ (z : EpochId). instance_now c (With n x older) z i ≡ Some (opened (history c (entries older)) (grant_of (tree_of c at f.group (entries older)) call inst m f ss) stamp)) there
            (subst (λ (j : Serial). instance_now c (With n x older) at j ≡ Some (opened (history c (entries older)) (grant_of (tree_of c at f.group (entries older)) call inst m f ss) stamp)) is (granted_begins c n older at call request inst m f stamp ss may))))

        split : (granted_to (entries older) e i ≡ Some g) ⊎ GrantsNow c older e i g → OpsAre c (With n x older) e i it
        split (inl old) = absurd (may.in_time.new (subst (λ (j : Serial). WasNamed older at j) (sym is) (subst (λ (z : EpochId). WasNamed older z i) (sym there) (granted_named older e i g old))))
        split (inr gn) = inl (record { count = fresh_ops c older e i g h gn now (granted_is c (With n x older) (may, h) e i g granted).us_is ∙ sym zero; nobody = nobody_stays c n x older h may quiet e i (unnamed_nobody c older e i h gn.new) })

    rest : granted_to (entries older) e i ≡ Some g → OpsAre c (With n x older) e i it
    rest old = ops_rest c n x older h may k e i g old now live quiet refl (λ z. z) it found

    over : (a b : Bool) → same_epoch at e ≡ a → same_serial inst i ≡ b → OpsAre c (With n x older) e i it
    over true true p q = new (same_epoch_eq at e p) (same_serial_eq inst i q)
    over true false p q = rest (sym (ap (λ (b : Bool). cond b (Some call) (granted_to (entries older) e i)) (ap (λ (b : Bool). b && same_serial inst i) p ∙ q)) ∙ granted)
    over false b p q = rest (sym (ap (λ (b : Bool). cond b (Some call) (granted_to (entries older) e i)) (ap (λ (b : Bool). b && same_serial inst i) p)) ∙ granted)

ops_acted : (c : Config) (n : ℕ) (at : EpochId) (inst : Serial) (number : ℕ) (o : Op) (result : Outcome) (older : List Line) → IsFollowed c older → MayTell c older (Shown (says.Act at inst number o result)) → AllOps c older → AllOps c (With n (Shown (says.Act at inst number o result)) older)
ops_acted c n at inst number o result older h may k e i g granted now live it found = over (same_epoch at e) (same_serial inst i) refl refl
  where
    x : Told
    x = Shown (says.Act at inst number o result)

    quiet : IsQuiet c n x older
    quiet = record { named = λ d k. k; turns = λ d i o asks named turn. turn }

    done : at ≡ e → inst ≡ i → OpsAre c (With n x older) e i it
    done there is = subst (λ (z : EpochId). OpsAre c (With n x older) z i it) there (subst (λ (j : Serial). OpsAre c (With n x older) at j it) is
        (ops_act c n older at inst number o result g (was c n x older h may k e i g granted now live).at it h may (back granted) (back_found (was c n x older h may k e i g granted now live).at (was c n x older h may k e i g granted now live).found) (later found) quiet (back_ops (ops_was c n x older h may k e i g granted now live))))
      where
        back : granted_to (entries older) e i ≡ Some g → granted_to (entries older) at inst ≡ Some g
        back z = subst (λ (y : EpochId). granted_to (entries older) y inst ≡ Some g) (sym there) (subst (λ (j : Serial). granted_to (entries older) e j ≡ Some g) (sym is) z)

        back_found : (y : Instance) → instance_now c older e i ≡ Some y → instance_now c older at inst ≡ Some y
        back_found y z = subst (λ (w : EpochId). instance_now c older w inst ≡ Some y) (sym there) (subst (λ (j : Serial). instance_now c older e j ≡ Some y) (sym is) z)

        later : instance_now c (With n x older) e i ≡ Some it → instance_now c (With n x older) at inst ≡ Some it
        later z = subst (λ (w : EpochId). instance_now c (With n x older) w inst ≡ Some it) (sym there) (subst (λ (j : Serial). instance_now c (With n x older) e j ≡ Some it) (sym is) z)

        back_ops : {y : Instance} → OpsAre c older e i y → OpsAre c older at inst y
        back_ops {y} z = subst (λ (w : EpochId). OpsAre c older w inst y) (sym there) (subst (λ (j : Serial). OpsAre c older e j y) (sym is) z)

    rest : (same_epoch at e && same_serial inst i) ≡ false → OpsAre c (With n x older) e i it
    rest f = ops_rest c n x older h may k e i g granted now live quiet refl (λ z. true_false (sym (both z.epoch_is z.serial_is) ∙ f)) it found
      where
        both : at ≡ e → inst ≡ i → (same_epoch at e && same_serial inst i) ≡ true
        both there is = ap (λ (b : Bool). b && same_serial inst i) (ap (same_epoch at) (sym there) ∙ same_epoch_own at) ∙ (ap (same_serial inst) (sym is) ∙ same_serial_own inst)

    over : (a b : Bool) → same_epoch at e ≡ a → same_serial inst i ≡ b → OpsAre c (With n x older) e i it
    over true true p q = done (same_epoch_eq at e p) (same_serial_eq inst i q)
    over true false p q = rest (ap (λ (b : Bool). b && same_serial inst i) p ∙ q)
    over false b p q = rest (ap (λ (b : Bool). b && same_serial inst i) p)

ops_up : (c : Config) (n s boot : ℕ) (older : List Line) → IsFollowed c older → MayTell c older (Shown (says.Up s boot)) → AllOps c older → AllOps c (With n (Shown (says.Up s boot)) older)
ops_up c n s boot older h may k e i g granted now live it found = ops_rest c n (Shown (says.Up s boot)) older h may k e i g granted now live (record { named = λ d k. k; turns = λ d i o asks named turn. turn }) (count (s == i.us) refl) (λ z. z) it found
  where
    by_grant : GrantIs older e i g
    by_grant = granted_is c older h e i g granted

    old_boot : g.boot ≡ boot_of (entries older) g.site
    old_boot = (counts_up c n (Shown (says.Up s boot)) older g h may (by_grant.inside.accepted, by_grant.inside.named) now).0

    other : s ≡ g.site → ⊥
    other same = over (boot_of (entries older) s) (ap (boot_of (entries older)) same ∙ (sym old_boot ∙ (now ∙ ap (λ (b : Bool). cond b boot (boot_of (entries older) g.site)) (ap (λ (m : ℕ). m == g.site) same ∙ equal_self g.site)))) may.row.above
      where
        over : (p : ℕ) → p ≡ boot → nat_lt p boot ≡ true → ⊥
        over p e t = grind (arith, nat_tests)

    count : (b : Bool) → (s == i.us) ≡ b → cond b 0 (ops_asked c older i) ≡ ops_asked c older i
    count true t = absurd (other (equal s i.us t ∙ by_grant.us_is))
    count false t = refl

ops_told : (c : Config) (n : ℕ) (x : Told) (older : List Line) → IsFollowed c older → MayTell c older x → AllOps c older → AllOps c (With n x older)
ops_told c n (Shown (says.Accept s process new words)) older h may k e i g granted now live it found = ops_turn c n (Shown (says.Accept s process new words)) older h may new e i g (accept_turn c n s process new words older i h may) granted now it (k e i g granted (now ∙ (accept_turn c n s process new words older i h may).turned.boots g.site) (λ r. live (inr r)) it found)
ops_told c n (Takes s who request times a) older h may k e i g granted now live it found = ops_turn c n (Takes s who request times a) older h may who e i g (take_turn c n s who request times a older i h may) granted now it (k e i g granted now (λ r. live (inr r)) it found)
ops_told c n (Shown (says.Grant at call request inst m f stamp ss)) older h may k e i g granted now live it found = ops_grant c n at call request inst m f stamp ss older h may k e i g granted now live it found
ops_told c n (Shown (says.Act at inst number o result)) older h may k e i g granted now live it found = ops_acted c n at inst number o result older h may k e i g granted now live it found
ops_told c n (Shown (says.Up s boot)) older h may k e i g granted now live it found = ops_up c n s boot older h may k e i g granted now live it found
ops_told c n (LooksAgain s who request times) older h may k e i g granted now live it found = ops_rest c n (LooksAgain s who request times) older h may k e i g granted now live (quiet_again c n s who request times older h may) refl (λ z. z) it found
ops_told c n (Shown r) older h may k e i g granted now live it found = ops_rest c n (Shown r) older h may k e i g granted now live (record { named = λ d k. k; turns = λ d i o asks named turn. turn }) refl (λ z. z) it found
ops_told c n x older h may k e i g granted now live it found = ops_rest c n x older h may k e i g granted now live (record { named = λ d k. k; turns = λ d i o asks named turn. turn }) refl (λ z. z) it found

-- what a site has asked of an open instance of its boot is what was done on it, or one more, which a call asks still
pub operations_counted : (c : Config) (t : List Line) → IsFollowed c t → AllOps c t
operations_counted c [] h = λ e i g granted. absurd (none_some g granted)
operations_counted c (x ∷ older) h = ops_told c x.number x.told older h.1 h.0 (operations_counted c older h.1)
