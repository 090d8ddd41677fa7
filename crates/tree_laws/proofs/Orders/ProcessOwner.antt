-- Which call the records say that an operation or a close of an instance is a step of is the one that asks it.
use Rattle.std.proofs.Common.{◌≡◌, ℕ, suc, ◌+◌, ◌≤◌, ◌<◌, Bool, true, false, not, cond, ◌&&◌, List, [], ◌∷◌, length, Some, refl, sym, ◌∙◌, ap, subst, arith, ◌⊎◌, inl, inr}
use Rattle.plain_facts.proofs.Numbers.{equal_self}
use Rattle.plain_facts.proofs.Options.{some_same}
use Rattle.plain_facts.proofs.Tests.{true_false}
use Rattle.locus_ids.specs.declared.config.Config.{Config}
use Rattle.locus_ids.specs.declared.ids.CallId.{CallId}
use Rattle.locus_ids.specs.declared.ids.EpochId.{EpochId}
use Rattle.locus_ids.specs.declared.ids.Serial.{Serial}
use Rattle.trace_book.specs.declared.call.Call.{Call}
use Rattle.trace_book.specs.declared.call.Call.TheVariants as call
use Rattle.trace_book.specs.declared.descriptor.Beginning.TheVariants as begins
use Rattle.trace_book.specs.declared.operation.Op.{Op}
use Rattle.trace_book.specs.declared.record.Record.TheVariants as says
use Rattle.trace_book.specs.declared.reply.Reply.TheVariants as reply
use Rattle.call_rules.specs.declared.want.Want.TheVariants as want
use Rattle.role_steps.specs.Own.{Every}
use Rattle.role_steps.specs.Views.{Told, Shown}
use Rattle.the_run.specs.Kept.{Among}
use Rattle.the_run.specs.Worlds.{Line}
use Rattle.tree_model.specs.declared.accepted.Waiting.{Waiting}
use Rattle.tree_model.specs.Calls.{granted_to, call_named, opening_of}
use Rattle.tree_model.specs.Epochs.{boot_of, calls_accepted}
use Rattle.lawful_trace.specs.CallRows.{next_call}
use Rattle.lawful_trace.specs.Tables.{begins_now, begun, is_close, is_opening, uses_by, uses_of, use_number, close_of, unless_named, call_of_act, call_of_release}
use Rattle.lawful_trace.specs.TreeRows.{IsCallIn}
use Rattle.tree_laws.specs.Printed.{entries, onto_entries}
use Rattle.tree_laws.specs.Calls.{is_request, Asks}
use Rattle.tree_laws.specs.Following.{MayTell, IsFollowed}
use Rattle.tree_laws.specs.Holding.{has_instances, IsOf}
use Rattle.tree_laws.specs.Processes.{WaitsFor}
use Rattle.tree_laws.specs.Serials.{asked_now}
use Rattle.tree_laws.proofs.Alone.{asking}
use Rattle.tree_laws.proofs.Answered.{asker_unnamed}
use Rattle.tree_laws.proofs.Descriptors.{IsPlain, IsUser, are_users, user_accepted, user_stays}
use Rattle.tree_laws.proofs.Fresh.{IsLow, numbered, calls_are_low}
use Rattle.tree_laws.proofs.Later.{earlier_is_over}
use Rattle.tree_laws.proofs.OfOwn.{asks_of_own}
use Rattle.tree_laws.proofs.OneBoot.{one_boot}
use Rattle.tree_laws.proofs.Orders.ProcessBegun.{comes_from, UsesIt, all_use, Fits, asked_fits}
use Rattle.tree_laws.proofs.Orders.ProcessOneDescriptor.{first_use}

abbrev With : ℕ → Told → List Line → List Line
With n x older = record { number = n; told = x } ∷ older

-- ---- uses follow each other ----

-- the latest use has the greatest number
abbrev Latest : List CallId → Type 0
Latest [] = Unit {0}
Latest (d ∷ rest) = Every (λ (y : CallId). y.n < d.n) rest

latest_accept : (c : Config) (n s process : ℕ) (new : CallId) (words : Call) (older : List Line) (e : EpochId) (i : Serial) → IsFollowed c older → MayTell c older (Shown (says.Accept s process new words)) → uses_by (begins_now (entries older) s process new words) e i ≡ true → (xs : List CallId) → Every (IsUser (entries older) e i) xs → Every (λ (y : CallId). y.n < new.n) xs
latest_accept c n s process new words older e i h may uses [] k = tt
latest_accept c n s process new words older e i h may uses (y ∷ ys) k = (below k.0, latest_accept c n s process new words older e i h may uses ys k.1)
  where
    is : new ≡ next_call (entries older) s
    is = numbered c (entries older) s process new words may.row

    now : List Line
    now = With n (Shown (says.Accept s process new words)) older

    mine : IsUser (entries now) e i new
    mine = user_accepted c older n s process new words e i h may uses

    below : IsUser (entries older) e i y → y.n < new.n
    below u = over (calls_are_low c older h y (u.inside.accepted, u.inside.named))
      where
        theirs : IsUser (entries now) e i y
        theirs = user_stays c older n (says.Accept s process new words) e i y h may u

        granted : theirs.for.granted ≡ mine.for.granted
        granted = some_same theirs.for.granted mine.for.granted (sym theirs.for.is_granted ∙ mine.for.is_granted)

        caller : theirs.for.caller ≡ mine.for.caller
        caller = some_same theirs.for.caller mine.for.caller (sym theirs.for.named ∙ (ap (call_named (entries now)) granted ∙ mine.for.named))

        site : y.site ≡ new.site
        site = sym theirs.for.site_is ∙ (ap (λ (w : Waiting). w.site) caller ∙ mine.for.site_is)

        boot : y.boot ≡ boot_of (entries older) s
        boot = one_boot c now e y new (may, h) theirs.inside mine.inside site ∙ ap (λ (z : CallId). z.boot) is

        at_site : y.site ≡ s
        at_site = site ∙ ap (λ (z : CallId). z.site) is

        number : new.n ≡ calls_accepted (entries older) s + 1
        number = ap (λ (z : CallId). z.n) is

        over : IsLow (entries older) y → y.n < new.n
        over (inl low) = absurd (later low)
          where
            later : y.boot < boot_of (entries older) y.site → ⊥
            later b = (let a : boot_of (entries older) y.site ≡ boot_of (entries older) s = ap (boot_of (entries older)) at_site in omega (arith, a, b, boot))
        over (inr low) = (let a : calls_accepted (entries older) y.site ≡ calls_accepted (entries older) s = ap (calls_accepted (entries older)) at_site in let b : y.n ≤ calls_accepted (entries older) y.site = low.1 in omega (arith, a, b, number))

latest_told : (c : Config) (n : ℕ) (x : Told) (older : List Line) (e : EpochId) (i : Serial) → IsFollowed c older → MayTell c older x → Latest (uses_of (entries older) e i) → Latest (uses_of (onto_entries n x (entries older)) e i)
latest_told c n (Shown (says.Accept s process new words)) older e i h may k = over (not (is_close words)) (uses_by (begins_now (entries older) s process new words) e i) refl
  where
    over : (a b : Bool) → uses_by (begins_now (entries older) s process new words) e i ≡ b → Latest (cond (a && b) (new ∷ uses_of (entries older) e i) (uses_of (entries older) e i))
    over true true t = latest_accept c n s process new words older e i h may t (uses_of (entries older) e i) (are_users c older h e i).uses
    over true false t = k
    over false b t = k
latest_told c n (Shown (says.Answer s process reader (reply.Data bytes))) older e i h may k = over (is_opening (opening_of (entries older) reader) e i) refl
  where
    over : (b : Bool) → is_opening (opening_of (entries older) reader) e i ≡ b → Latest (cond b (reader ∷ uses_of (entries older) e i) (uses_of (entries older) e i))
    over true t = subst (λ (xs : List CallId). Latest (reader ∷ xs)) (sym (first_use c older s process reader bytes e i h may t)) tt
    over false t = k
latest_told c n (Shown r) older e i h may k = k
latest_told c n _ older e i h may k = k

latest : (c : Config) (t : List Line) → IsFollowed c t → (e : EpochId) (i : Serial) → Latest (uses_of (entries t) e i)
latest c [] h e i = tt
latest c (x ∷ older) h e i = latest_told c x.number x.told older e i h.1 h.0 (latest c older h.1 e i)

-- ---- the owner ----

every_among : (P : CallId → Type 0) (d : CallId) (xs : List CallId) → Every P xs → Among d xs → P d
every_among P d [] h k = absurd k
every_among P d (y ∷ ys) h (inl same) = subst P (sym same) h.0
every_among P d (y ∷ ys) h (inr k) = every_among P d ys h.1 k

pub plain_waits : (later earlier : Call) → IsPlain later → WaitsFor later earlier
plain_waits (call.Mend file) earlier p = absurd p
plain_waits _ earlier p = tt

module _ (c : Config) (t : List Line) (e : EpochId) (i : Serial) (d : CallId) (h : IsFollowed c t) (inside : IsCallIn (entries t) e d) (asks : is_request (asked_now c t d) ≡ true) where
  -- a user that asks something is the latest use
  is_latest : IsUser (entries t) e i d → Among d (uses_of (entries t) e i) → (rest : List CallId) × (uses_of (entries t) e i ≡ d ∷ rest)
  is_latest u among = over (uses_of (entries t) e i) refl (latest c t h e i) (are_users c t h e i).uses among
    where
      over : (xs : List CallId) → uses_of (entries t) e i ≡ xs → Latest xs → Every (IsUser (entries t) e i) xs → Among d xs → (rest : List CallId) × (uses_of (entries t) e i ≡ d ∷ rest)
      over [] is l users k = absurd k
      over (y ∷ ys) is l users (inl same) = (ys, is ∙ ap (λ (z : CallId). z ∷ ys) (sym same))
      over (y ∷ ys) is l users (inr k) = absurd (later users.0 (every_among (λ (z : CallId). z.n < y.n) d ys l k))
        where
          later : IsUser (entries t) e i y → d.n < y.n → ⊥
          later v below = true_false (sym asks ∙ (earlier_is_over c t h e d y (record { first = u.inside; second = v.inside; site_same = site; process_same = process; waits_for = plain_waits v.inside.accepted.words u.inside.accepted.words v.plain; later = below })).asks_nothing)
            where
              granted : u.for.granted ≡ v.for.granted
              granted = some_same u.for.granted v.for.granted (sym u.for.is_granted ∙ v.for.is_granted)

              caller : u.for.caller ≡ v.for.caller
              caller = some_same u.for.caller v.for.caller (sym u.for.named ∙ (ap (call_named (entries t)) granted ∙ v.for.named))

              site : d.site ≡ y.site
              site = sym u.for.site_is ∙ (ap (λ (w : Waiting). w.site) caller ∙ v.for.site_is)

              process : u.inside.accepted.process ≡ v.inside.accepted.process
              process = sym u.for.process_is ∙ (ap (λ (w : Waiting). w.process) caller ∙ v.for.process_is)

  -- where no descriptor has named it, its owner is the call that it was granted to
  unnamed_act : (n : ℕ) → granted_to (entries t) e i ≡ Some d → call_of_act (entries t) e i n ≡ Some d
  unnamed_act n g = ap (unless_named (entries t) (use_number (uses_of (entries t) e i) n)) g ∙ ap (λ (b : Bool). cond b (use_number (uses_of (entries t) e i) n) (Some d)) (asker_unnamed c t d h asks)

  unnamed_release : granted_to (entries t) e i ≡ Some d → call_of_release (entries t) e i ≡ Some d
  unnamed_release g = ap (unless_named (entries t) (close_of (entries t) e i)) g ∙ ap (λ (b : Bool). cond b (close_of (entries t) e i) (Some d)) (asker_unnamed c t d h asks)

  named_act : (n : ℕ) → IsUser (entries t) e i d → call_of_act (entries t) e i n ≡ use_number (uses_of (entries t) e i) n
  named_act n u = ap (unless_named (entries t) (use_number (uses_of (entries t) e i) n)) u.for.is_granted ∙ ap (λ (b : Bool). cond b (use_number (uses_of (entries t) e i) n) (Some u.for.granted)) u.for.answered

  named_release : IsUser (entries t) e i d → call_of_release (entries t) e i ≡ close_of (entries t) e i
  named_release u = ap (unless_named (entries t) (close_of (entries t) e i)) u.for.is_granted ∙ ap (λ (b : Bool). cond b (close_of (entries t) e i) (Some u.for.granted)) u.for.answered

last_number : (d : CallId) (rest : List CallId) → use_number (d ∷ rest) (length (d ∷ rest)) ≡ Some d
last_number d rest = ap (λ (b : Bool). cond b (Some d) (use_number rest (length (d ∷ rest)))) (equal_self (suc (length rest)))

-- the call that asks to close an instance is the one that its release is a step of
pub owner_release : (c : Config) (t : List Line) (e : EpochId) (d : CallId) (i : Serial) → IsFollowed c t → IsCallIn (entries t) e d → Asks c t d (want.Close i) → call_of_release (entries t) e i ≡ Some d
owner_release c t e d i h inside asks = over (comes_from c t h e d i inside (subst (IsOf (has_instances c t d)) asks.asked (asks_of_own c t d h (inside.accepted, inside.named))))
  where
    is_asking : is_request (asked_now c t d) ≡ true
    is_asking = asking c t d (want.Close i) asks

    over : (granted_to (entries t) e i ≡ Some d) ⊎ (begun (entries t) d ≡ Some (begins.Uses e i)) → call_of_release (entries t) e i ≡ Some d
    over (inl g) = unnamed_release c t e i d h inside is_asking g
    over (inr b) = named_release c t e i d h inside is_asking ((are_users c t h e i).closes d closes) ∙ closes
      where
        closes : close_of (entries t) e i ≡ Some d
        closes = subst (UsesIt (entries t) e i d) (subst (Fits (is_close inside.accepted.words)) asks.asked (asked_fits c t d inside.accepted e i inside.named b)) (all_use c t h d inside.accepted e i inside.named b)

-- the call that asks an operation of an instance is the one that its next operation is a step of: of any number where no
-- descriptor has named it, else of the number of its uses
pub owner_act : (c : Config) (t : List Line) (e : EpochId) (d : CallId) (i : Serial) (o : Op) → IsFollowed c t → IsCallIn (entries t) e d → Asks c t d (want.Do i o) → ((n : ℕ) → call_of_act (entries t) e i n ≡ Some d) ⊎ (call_of_act (entries t) e i (length (uses_of (entries t) e i)) ≡ Some d)
owner_act c t e d i o h inside asks = over (comes_from c t h e d i inside (subst (IsOf (has_instances c t d)) asks.asked (asks_of_own c t d h (inside.accepted, inside.named))))
  where
    is_asking : is_request (asked_now c t d) ≡ true
    is_asking = asking c t d (want.Do i o) asks

    over : (granted_to (entries t) e i ≡ Some d) ⊎ (begun (entries t) d ≡ Some (begins.Uses e i)) → ((n : ℕ) → call_of_act (entries t) e i n ≡ Some d) ⊎ (call_of_act (entries t) e i (length (uses_of (entries t) e i)) ≡ Some d)
    over (inl g) = inl (λ n. unnamed_act c t e i d h inside is_asking n g)
    over (inr b) = inr (named_act c t e i d h inside is_asking (length (uses_of (entries t) e i)) user ∙ (ap (λ (xs : List CallId). use_number xs (length xs)) l.1 ∙ last_number d l.0))
      where
        uses : Among d (uses_of (entries t) e i)
        uses = subst (UsesIt (entries t) e i d) (subst (Fits (is_close inside.accepted.words)) asks.asked (asked_fits c t d inside.accepted e i inside.named b)) (all_use c t h d inside.accepted e i inside.named b)

        user : IsUser (entries t) e i d
        user = every_among (IsUser (entries t) e i) d (uses_of (entries t) e i) (are_users c t h e i).uses uses

        l : (rest : List CallId) × (uses_of (entries t) e i ≡ d ∷ rest)
        l = is_latest c t e i d h inside is_asking user uses
