-- While a mend asks its open, what is kept of the directory is what was kept when it was granted: so its answer tells what is kept.
use Rattle.std.proofs.Common.{◌≡◌, ℕ, ◌+◌, ◌≤◌, Bool, true, false, cond, List, [], ◌∷◌, ◌++◌, Option, Some, length, refl, sym, ◌∙◌, ap, subst, arith, length-append, ◌⊎◌, inl, inr}
use Rattle.role_steps.proofs.of_plain_facts.Options.{some_same}
use Rattle.role_steps.proofs.of_plain_facts.Tests.{and_first, true_false}
use Rattle.locus_ids.specs.declared.config.Config.{Config}
use Rattle.locus_ids.specs.declared.ids.CallId.{CallId}
use Rattle.locus_ids.specs.declared.ids.EpochId.{EpochId}
use Rattle.locus_ids.specs.declared.ids.FileId.{FileId}
use Rattle.locus_ids.specs.declared.ids.Mode.{Mode}
use Rattle.locus_ids.specs.declared.ids.Mode.TheVariants as mode
use Rattle.locus_ids.specs.declared.ids.Serial.{Serial}
use Rattle.locus_ids.specs.declared.ids.Stamp.{Stamp}
use Rattle.trace_book.specs.Same.{same_call}
use Rattle.trace_book.specs.declared.descriptor.Beginning.TheVariants as begins
use Rattle.trace_book.specs.declared.record.Record.{Record}
use Rattle.trace_book.specs.declared.record.Record.TheVariants as says
use Rattle.call_rules.specs.declared.answer.Answer.{Answer}
use Rattle.call_rules.specs.declared.answer.Answer.TheVariants as answer
use Rattle.role_steps.specs.Views.{Told, Shown, Takes, LooksAgain}
use Rattle.the_run.specs.Worlds.{Line}
use Rattle.tree_model.specs.Calls.{granted_to}
use Rattle.tree_model.specs.State.{instance_in}
use Rattle.tree_model.specs.Tree.{kept_in, tree_of}
use Rattle.lawful_trace.specs.Progress.{Answers, granted_answer}
use Rattle.lawful_trace.specs.Tables.{begun, has_named}
use Rattle.lawful_trace.specs.TreeRows.{granted_group, IsCallIn}
use Rattle.tree_laws.specs.Printed.{entries, onto_entries}
use Rattle.tree_laws.specs.Calls.{heard, log, request_number, tries, Waits}
use Rattle.tree_laws.specs.Following.{IsFollowed, MayTell}
use Rattle.tree_laws.specs.Past.{EndRecord, GrantRecord, Printed, WasGranted, WasNamed, WasReleased}
use Rattle.tree_laws.specs.Serials.{asked_now, is_open_want}
use Rattle.tree_laws.proofs.Asking.{not_longer, Turns, waits_stays}
use Rattle.tree_laws.proofs.Answered.{asker_unnamed}
use Rattle.tree_laws.proofs.Awaiting.{by_own}
use Rattle.tree_laws.proofs.Counting.{asked_same, Opens}
use Rattle.tree_laws.proofs.Descriptors.{IsUser}
use Rattle.tree_laws.proofs.Names.{same_call_own}
use Rattle.tree_laws.proofs.Rows.{followed_rows}
use Rattle.tree_laws.proofs.Scripts.{in_stays}
use Rattle.tree_laws.proofs.Serials.{asks_opens}
use Rattle.tree_laws.proofs.Orders.ProcessBegun.{comes_from}
use Rattle.tree_laws.proofs.Orders.ProcessCurrent.{same_or_turns}
use Rattle.tree_laws.proofs.Orders.ProcessGranting.{released_named}
use Rattle.tree_laws.proofs.Orders.ProcessHad.{begun_user}
use Rattle.tree_laws.proofs.Orders.ProcessOpen.{granted_open, OpenAs}
use Rattle.tree_laws.specs.Orders.Joining.{PacksAreOfSites}
use Rattle.tree_laws.specs.Orders.Keeping.{PassesBy}
use Rattle.tree_laws.proofs.Orders.Keeping.{IsNew, kept_by}
use Rattle.store_laws.specs.Holdings.Below.{LawsBelow}
use Rattle.store_laws.proofs.Holdings.Begun.{open_in_group}
use Rattle.store_laws.proofs.Holdings.Below.{commits_new, laws_before}
use Rattle.store_laws.proofs.Holdings.Kept.{open_keeps}
use Rattle.store_laws.proofs.Holdings.Made.{CommitsAreNew}
use Rattle.store_laws.proofs.AnswerAnswering.{releaser_in}
use Rattle.store_laws.proofs.AnswerAskers.{close_had, With}
use Rattle.store_laws.proofs.AnswerDone.{open_grant}
use Rattle.store_laws.proofs.AnswerUnasked.{opens_request}

-- what was granted was granted to a call of the epoch
granted_in : (c : Config) (t : List Line) → IsFollowed c t → (e : EpochId) (d : CallId) (request : ℕ) (i : Serial) (m : Mode) (f : FileId) (stamp : Option Stamp) (ss : ℕ) → WasGranted t e d request i m f stamp ss → IsCallIn (entries t) e d
granted_in c [] h e d request i m f stamp ss was = absurd was
granted_in c (x ∷ older) h e d request i m f stamp ss (inr was) = in_stays c x.number x.told older e d h.1 h.0 (granted_in c older h.1 e d request i m f stamp ss was)
granted_in c (x ∷ older) h e d request i m f stamp ss (inl now) = in_stays c x.number x.told older e d h.1 h.0 (over x.told h.0 now)
  where
    over : (y : Told) → MayTell c older y → Printed (GrantRecord e d request i m f stamp ss) older y → IsCallIn (entries older) e d
    over (Shown (says.Grant at call number inst md file on place)) may p = subst (λ (z : EpochId). IsCallIn (entries older) z d) p.epoch_is (subst (IsCallIn (entries older) at) p.call_is may.row.opens.step)
    over _ may p = absurd p

number_rises : (n : ℕ) (x : Told) (older : List Line) (d : CallId) → request_number older d ≤ request_number (With n x older) d
number_rises n (Takes s it number k a) older d = at (same_call it d)
  where
    at : (b : Bool) → request_number older d ≤ length (cond b (log older d ++ a ∷ []) (log older d)) + 1
    at true = (let more : length (log older d ++ a ∷ []) ≡ length (log older d) + 1 = length-append (log older d) (a ∷ []) in omega (arith, more))
    at false = omega arith
number_rises n (Shown r) older d = omega arith
number_rises n _ older d = omega arith

-- ---- the open that a mend asks still ----

record AsksStill (c : Config) (t : List Line) (e : EpochId) (d : CallId) (i : Serial) (f : FileId) : Type 0 where
  waits : Waits c t d (answer.Merging i (kept_in c (entries t) e f))
  opens : Opens c t d
  live : WasReleased t e i → ⊥

-- the call has come so far, and asks it still where this is its request
record HasCome (c : Config) (t : List Line) (e : EpochId) (d : CallId) (request : ℕ) (i : Serial) (f : FileId) : Type 0 where
  low : request ≤ request_number t d
  still : request ≡ request_number t d → AsksStill c t e d i f

-- it is granted now
come_now : (c : Config) (n : ℕ) (x : Told) (older : List Line) → PacksAreOfSites c → IsFollowed c older → MayTell c older x → (e : EpochId) (d : CallId) (request : ℕ) (i : Serial) (f : FileId) (stamp : Option Stamp) (ss : ℕ) → Printed (GrantRecord e d request i mode.Mend f stamp ss) older x → HasCome c (With n x older) e d request i f
come_now c n (Shown (says.Grant at call number inst md file on place)) older few h may e d request i f stamp ss p = record { low = up (request_number older d) number_is; still = λ same. record { waits = waits; opens = opens; live = live } }
  where
    r : Record
    r = says.Grant at call number inst md file on place

    number_is : request ≡ request_number older d
    number_is = sym p.request_is ∙ (may.in_time.opens.asks.request_is ∙ ap (request_number older) p.call_is)

    up : (k : ℕ) → request ≡ k → request ≤ k
    up k e = omega (arith, e)

    clear : heard c older d ≡ log older d
    clear = subst (λ (y : CallId). heard c older y ≡ log older y) p.call_is may.in_time.opens.asks.asks.nothing_waits

    inside : IsCallIn (entries older) e d
    inside = subst (λ (z : EpochId). IsCallIn (entries older) z d) p.epoch_is (subst (IsCallIn (entries older) at) p.call_is may.row.opens.step)

    started : (tree_of c e f.group (entries older)).started ≡ true
    started = subst (λ (g : FileId). (tree_of c e g.group (entries older)).started ≡ true) p.file_is (subst (λ (z : EpochId). (tree_of c z file.group (entries older)).started ≡ true) p.epoch_is
        (and_first (tree_of c at file.group (entries older)).started _ may.row.gives))

    kept : kept_in c (entries (With n (Shown r) older)) e f ≡ kept_in c (entries older) e f
    kept = kept_by c (entries older) few (followed_rows c older h) e f started n r may.row tt tt

    told : granted_answer md inst file on (kept_in c (entries older) at file) ≡ answer.Merging i (kept_in c (entries older) e f)
    told = ap (λ (m : Mode). granted_answer m inst file on (kept_in c (entries older) at file)) p.mode_is
        ∙ (ap (λ (j : Serial). answer.Merging j (kept_in c (entries older) at file)) p.serial_is ∙ (ap (λ (z : EpochId). answer.Merging i (kept_in c (entries older) z file)) p.epoch_is ∙ ap (λ (g : FileId). answer.Merging i (kept_in c (entries older) e g)) p.file_is))

    waits : Waits c (With n (Shown r) older) d (answer.Merging i (kept_in c (entries (With n (Shown r) older)) e f))
    waits = by_own call d (heard c older d ++ granted_answer md inst file on (kept_in c (entries older) at file) ∷ []) (heard c older d) p.call_is
        ∙ (ap (λ (xs : Answers). xs ++ granted_answer md inst file on (kept_in c (entries older) at file) ∷ []) clear
        ∙ (ap (λ (a : Answer). log older d ++ a ∷ []) told ∙ ap (λ (ks : List Stamp). log older d ++ answer.Merging i ks ∷ []) (sym kept)))

    opens : Opens c (With n (Shown r) older) d
    opens = ap is_open_want (asked_same c older n (Shown r) d h may (inside.accepted, inside.named) refl)
        ∙ subst (λ (y : CallId). is_open_want (asked_now c older y) ≡ true) p.call_is (asks_opens c older at call number inst.serial may.in_time.opens.asked may.in_time.opens.it may.in_time.opens.asks)

    live : WasReleased (With n (Shown r) older) e i → ⊥
    live (inl k) = k
    live (inr k) = may.in_time.new (subst (λ (j : Serial). WasNamed older at j) (sym p.serial_is) (subst (λ (z : EpochId). WasNamed older z i) (sym p.epoch_is) (released_named c older h e i k)))
come_now c n (Shown r) older few h may e d request i f stamp ss p = absurd p
come_now c n _ older few h may e d request i f stamp ss p = absurd p

-- it was granted before
module _ (c : Config) (n : ℕ) (x : Told) (older : List Line) (few : PacksAreOfSites c) (h : IsFollowed c older) (may : MayTell c older x) (new : CommitsAreNew c (onto_entries n x (entries older))) (e : EpochId) (d : CallId) (request : ℕ) (i : Serial) (f : FileId) (stamp : Option Stamp) (ss : ℕ) (was : WasGranted older e d request i mode.Mend f stamp ss) where
  inside : IsCallIn (entries older) e d
  inside = granted_in c older h e d request i mode.Mend f stamp ss was

  -- no other call may release it
  unended : (y : Told) → MayTell c older y → AsksStill c older e d i f → Printed (EndRecord e i) older y → ⊥
  unended (Shown (says.Release at inst g s)) m k p = over (comes_from c older h at m.in_time.call inst it (close_had c older m.in_time.call inst h (it.accepted, it.named) m.in_time.asks.asked))
    where
      it : IsCallIn (entries older) at m.in_time.call
      it = releaser_in c older at inst g s m

      opened : OpenAs c older e d i mode.Mend f ss
      opened = granted_open c older h e d request i mode.Mend f stamp ss was k.live

      granted : granted_to (entries older) at inst ≡ Some d
      granted = subst (λ (z : EpochId). granted_to (entries older) z inst ≡ Some d) (sym p.epoch_is) (subst (λ (j : Serial). granted_to (entries older) e j ≡ Some d) (sym p.serial_is)
          (open_grant c older h e (granted_group (entries older) e i) i opened.at opened.found ∙ ap Some opened.call_is))

      over : (granted_to (entries older) at inst ≡ Some m.in_time.call) ⊎ (begun (entries older) m.in_time.call ≡ Some (begins.Uses at inst)) → ⊥
      over (inl own) = not_longer (heard c older d) (log older d) _ (subst (λ (z : CallId). heard c older z ≡ log older z) (some_same m.in_time.call d (sym own ∙ granted)) m.in_time.asks.nothing_waits) k.waits
      over (inr b) = (let u : IsUser (entries older) at inst m.in_time.call = begun_user c older at inst m.in_time.call h it b in
          true_false (sym (subst (λ (z : CallId). has_named (entries older) z ≡ true) (some_same u.for.granted d (sym u.for.is_granted ∙ granted)) u.for.answered) ∙ asker_unnamed c older d h (opens_request (asked_now c older d) k.opens)))
  unended _ m k p = absurd p

  -- so what is kept of the file stays
  kept_still : AsksStill c older e d i f → (WasReleased (With n x older) e i → ⊥) → kept_in c (entries (With n x older)) e f ≡ kept_in c (entries older) e f
  kept_still k live = over x may new live
    where
      opened : OpenAs c older e d i mode.Mend f ss
      opened = granted_open c older h e d request i mode.Mend f stamp ss was k.live

      found : instance_in (tree_of c e f.group (entries older)) i ≡ Some opened.at
      found = subst (λ (y : FileId). instance_in (tree_of c e y.group (entries older)) i ≡ Some opened.at) opened.file_is (open_in_group c older h e i opened.at opened.found)

      passes : (r : Record) → IsNew c (entries older) r → (WasReleased (With n (Shown r) older) e i → ⊥) → PassesBy c (entries older) e f i r
      passes (says.Commit g z made parents content) fresh live = fresh
      passes (says.Release at inst g last) fresh live = λ p q. live (inl (record { epoch_is = p; serial_is = q }))
      passes _ fresh live = tt

      over : (y : Told) → MayTell c older y → CommitsAreNew c (onto_entries n y (entries older)) → (WasReleased (With n y older) e i → ⊥) → kept_in c (onto_entries n y (entries older)) e f ≡ kept_in c (entries older) e f
      over (Shown r) m fresh live = open_keeps c (entries older) few (followed_rows c older h) e f i opened.at found opened.file_is n r m.row (passes r fresh.0 live)
      over _ m fresh live = refl

  -- a turn of the call makes another request current
  turned_past : HasCome c older e d request i f → Turns x d → request ≡ request_number (With n x older) d → ⊥
  turned_past k turn same = over x may turn same
    where
      over : (y : Told) → MayTell c older y → Turns y d → request ≡ request_number (With n y older) d → ⊥
      over (Takes s it number times a) m is same = (let own : request ≡ length (log older d ++ a ∷ []) + 1 = same ∙ ap (λ (b : Bool). length (cond b (log older d ++ a ∷ []) (log older d)) + 1) (subst (λ (z : CallId). same_call it z ≡ true) is (same_call_own it)) in
          let more : length (log older d ++ a ∷ []) ≡ length (log older d) + 1 = length-append (log older d) (a ∷ []) in let low : request ≤ length (log older d) + 1 = k.low in omega (arith, own, more, low))
      over (LooksAgain s it number times) m is same = true_false (sym (k.still same).opens ∙ (ap (λ (z : CallId). is_open_want (asked_now c older z)) (sym is) ∙ ap is_open_want m.looks))
      over _ m is same = is

  come_still : HasCome c older e d request i f → HasCome c (With n x older) e d request i f
  come_still k = record { low = up k.low (number_rises n x older d); still = λ same. over same (same_or_turns n x older d) }
    where
      up : {p q : ℕ} → request ≤ p → p ≤ q → request ≤ q
      up a b = omega (arith, a, b)

      rests : request ≡ request_number older d → log (With n x older) d ≡ log older d → AsksStill c older e d i f → Waits c (With n x older) d (answer.Merging i (kept_in c (entries older) e f)) → AsksStill c (With n x older) e d i f
      rests same logs a waits = record {
        waits = subst (λ (ks : List Stamp). Waits c (With n x older) d (answer.Merging i ks)) (sym (kept_still a live)) waits;
        opens = ap is_open_want (asked_same c older n x d h may (inside.accepted, inside.named) logs) ∙ a.opens;
        live = live;
      }
        where
          live : WasReleased (With n x older) e i → ⊥
          live (inl now) = unended x may a now
          live (inr old) = a.live old

      over : request ≡ request_number (With n x older) d → ((log (With n x older) d ≡ log older d) × (tries (With n x older) d ≡ tries older d)) ⊎ Turns x d → AsksStill c (With n x older) e d i f
      over same (inr turn) = absurd (turned_past k turn same)
      over same (inl logs) = (let at : request ≡ request_number older d = same ∙ ap (λ (xs : Answers). length xs + 1) logs.0 in stays at (k.still at) (waits_stays c n x older d (answer.Merging i (kept_in c (entries older) e f)) may (k.still at).waits))
        where
          stays : request ≡ request_number older d → AsksStill c older e d i f → Waits c (With n x older) d (answer.Merging i (kept_in c (entries older) e f)) ⊎ Turns x d → AsksStill c (With n x older) e d i f
          stays at a (inl w) = rests at logs.0 a w
          stays at a (inr turn) = absurd (turned_past k turn same)

mend_comes : (c : Config) (t : List Line) → IsFollowed c t → LawsBelow c t → (e : EpochId) (d : CallId) (request : ℕ) (i : Serial) (f : FileId) (stamp : Option Stamp) (ss : ℕ) → WasGranted t e d request i mode.Mend f stamp ss → HasCome c t e d request i f
mend_comes c [] h laws e d request i f stamp ss was = absurd was
mend_comes c (x ∷ older) h laws e d request i f stamp ss (inl now) = come_now c x.number x.told older laws.packs h.1 h.0 e d request i f stamp ss now
mend_comes c (x ∷ older) h laws e d request i f stamp ss (inr was) = come_still c x.number x.told older laws.packs h.1 h.0 (commits_new c (x ∷ older) h laws.once) e d request i f stamp ss was (mend_comes c older h.1 (laws_before c x older laws) e d request i f stamp ss was)

-- what waits for a mend whose open was granted at its current request tells the versions that are kept
pub mend_waits : (c : Config) (t : List Line) → IsFollowed c t → LawsBelow c t → (e : EpochId) (d : CallId) (request : ℕ) (i : Serial) (f : FileId) (stamp : Option Stamp) (ss : ℕ) → WasGranted t e d request i mode.Mend f stamp ss → request ≡ request_number t d → Waits c t d (answer.Merging i (kept_in c (entries t) e f))
mend_waits c t h laws e d request i f stamp ss was same = ((mend_comes c t h laws e d request i f stamp ss was).still same).waits
