-- The operation that a call asks, numbered by what its site has asked of the instance, is a step of the call.
use Rattle.std.proofs.Common.{◌≡◌, ℕ, ◌+◌, Bool, true, false, cond, List, [], ◌∷◌, Some, None, length, refl, sym, ◌∙◌, ap, subst, arith, ◌⊎◌, inl, inr, ◌&&◌}
use Rattle.role_steps.proofs.of_plain_facts.Tests.{true_false}
use Rattle.locus_ids.specs.declared.config.Config.{Config}
use Rattle.locus_ids.specs.declared.ids.CallId.{CallId}
use Rattle.locus_ids.specs.declared.ids.EpochId.{EpochId}
use Rattle.locus_ids.specs.declared.ids.Serial.{Serial}
use Rattle.trace_book.specs.declared.call.Call.{Call}
use Rattle.trace_book.specs.declared.descriptor.Beginning.TheVariants as begins
use Rattle.trace_book.specs.declared.descriptor.Descriptor.{Descriptor}
use Rattle.trace_book.specs.declared.operation.Op.{Op}
use Rattle.trace_book.specs.declared.reply.Reply.TheVariants as reply
use Rattle.call_rules.specs.declared.want.Want.TheVariants as want
use Rattle.call_rules.specs.Scripts.{wants, where_packed}
use Rattle.the_run.specs.Worlds.{Line}
use Rattle.tree_model.specs.declared.accepted.Waiting.{Waiting}
use Rattle.tree_model.specs.Calls.{call_named, granted_to, opening_of}
use Rattle.tree_model.specs.Epochs.{boot_of, epoch_of}
use Rattle.lawful_trace.specs.Progress.{is_packed_in}
use Rattle.lawful_trace.specs.Tables.{begun, call_of_act, unless_named, use_number, uses_of}
use Rattle.lawful_trace.specs.TreeRows.{IsCallIn}
use Rattle.tree_laws.specs.Printed.{entries, onto_entries}
use Rattle.tree_laws.specs.Calls.{Asks, log, script, heard}
use Rattle.tree_laws.specs.Following.{IsFollowed, TookFor, MayTell}
use Rattle.tree_laws.specs.Serials.{ops_asked, is_open_want, asked_now}
use Rattle.tree_laws.proofs.Alone.{asking}
use Rattle.tree_laws.proofs.Answered.{asker_unnamed}
use Rattle.tree_laws.proofs.Counting.{IsNow}
use Rattle.tree_laws.proofs.Descriptors.{IsUser}
use Rattle.tree_laws.proofs.OneBoot.{boot_where_inside, one_boot}
use Rattle.tree_laws.proofs.Orders.ProcessBegun.{comes_from}
use Rattle.tree_laws.proofs.Orders.ProcessGranting.{GrantIs, granted_is, user_us}
use Rattle.tree_laws.proofs.Orders.ProcessHad.{begun_user}
use Rattle.tree_laws.proofs.Orders.ProcessOwner.{owner_act}
use Rattle.store_laws.proofs.AnswerAskers.{op_had}
use Rattle.store_laws.proofs.ScriptFitting.{AllFit, Fits, ReadWords}
use Rattle.store_laws.proofs.ScriptNaming.{RereadsIn, script_by}
use Rattle.call_rules.specs.declared.want.Want.{Want}
use Rattle.store_laws.proofs.AnswerCounted.{counted}
use Rattle.store_laws.proofs.AnswerCounting.{ReadsNow, opens_first, rereads_older}
use Rattle.store_laws.proofs.AnswerNaming.{NamedSo, granted_opens, namers_open}
use Rattle.store_laws.proofs.ScriptFitted.{log_fits}
use Rattle.commit_graph.specs.Versions.{same_stamp}
use Rattle.call_rules.specs.declared.answer.Answer.TheVariants as answer
use Rattle.trace_book.specs.declared.call.Call.TheVariants as call
use Rattle.trace_book.specs.declared.operation.Op.TheVariants as op
use Rattle.store_laws.proofs.ScriptOpened.{last_so}
use Rattle.store_laws.proofs.ScriptLasting.{opened_from}
use Rattle.tree_laws.proofs.Serials.{asks_opens}
use Rattle.tree_laws.proofs.Scripts.{named_stays}
use Rattle.tree_laws.proofs.Names.{same_call_eq, same_call_own, same_serial_eq}
use Rattle.role_steps.specs.Views.{Told, Shown}
use Rattle.trace_book.specs.Same.{same_call, same_epoch, same_serial}
use Rattle.locus_ids.specs.declared.ids.Mode.TheVariants as mode
use Rattle.trace_book.specs.declared.call.OpenMode.TheVariants as how
use Rattle.trace_book.specs.declared.record.Record.TheVariants as says
use Rattle.call_rules.specs.declared.answer.Answer.{Answer}
use Rattle.role_steps.proofs.of_plain_facts.Options.{none_some, some_same}

-- ---- the owner ----

plus_none : (p m : ℕ) → p ≡ m + 0 → p ≡ m
plus_none p m e = omega (arith, e)

-- a read opens nothing once something was granted to it
none_before : (c : Config) (older : List Line) (at : EpochId) (g : CallId) (w : Waiting) → IsFollowed c older → IsCallIn (entries older) at g → call_named (entries older) g ≡ Some w → RereadsIn older g w.words → is_open_want (asked_now c older g) ≡ true → heard c older g ≡ log older g → opening_of (entries older) g ≡ None
none_before c older at g w h inside named r opens clear = last_so c older h g how.Read at (record { caller = w; named = named; opens_in = inr (subst ReadWords (sym r.2.words_are) tt, refl); made_in = ap (λ (v : Waiting). v.epoch) (some_same w inside.accepted (sym named ∙ inside.named)) ∙ inside.made_in })
    ∙ ap (opened_from None mode.Read at) (clear ∙ nothing (log older g) refl)
  where
    nothing : (xs : List Answer) → log older g ≡ xs → log older g ≡ []
    nothing [] e = e
    nothing (a ∷ xs) e = absurd (opens_first c older g w r named opens a xs e)

-- so it is granted one instance
one_grant : (c : Config) (t : List Line) → IsFollowed c t → (e : EpochId) (i : Serial) (g : CallId) (w : Waiting) (x : Descriptor) → RereadsIn t g w.words → call_named (entries t) g ≡ Some w → granted_to (entries t) e i ≡ Some g → opening_of (entries t) g ≡ Some x → x.inst ≡ i
one_grant c [] h e i g w x r named granted opening = absurd (none_some g granted)
one_grant c (y ∷ older) h e i g w x r named granted opening = over y.told h.0 (λ s called k o. one_grant c older h.1 e i g w x s called k o) r named granted opening
  where
    Later : Type 0
    Later = RereadsIn older g w.words → call_named (entries older) g ≡ Some w → granted_to (entries older) e i ≡ Some g → opening_of (entries older) g ≡ Some x → x.inst ≡ i

    still : (z : Told) → MayTell c older z → Later → RereadsIn (record { number = y.number; told = z } ∷ older) g w.words → call_named (onto_entries y.number z (entries older)) g ≡ Some w → granted_to (entries older) e i ≡ Some g → opening_of (entries older) g ≡ Some x → x.inst ≡ i
    still z may later s called k o = (let by : GrantIs older e i g = granted_is c older h.1 e i g k in
        later (rereads_older c y.number z older g w h.1 may (by.inside.accepted, by.inside.named) s) (sym (named_stays c y.number z older g h.1 may (by.inside.accepted, by.inside.named)) ∙ called) k o)

    over : (z : Told) → MayTell c older z → Later → RereadsIn (record { number = y.number; told = z } ∷ older) g w.words → call_named (onto_entries y.number z (entries older)) g ≡ Some w → granted_to (onto_entries y.number z (entries older)) e i ≡ Some g → opening_of (onto_entries y.number z (entries older)) g ≡ Some x → x.inst ≡ i
    over (Shown (says.Grant at it request inst m f stamp ss)) may later s called k o = split (same_call it g) (same_epoch at e && same_serial inst i) refl refl k o
      where
        second : (a b : Bool) → a && b ≡ true → b ≡ true
        second true b m = m
        second false b m = absurd (true_false (sym m))

        reads : RereadsIn older g w.words
        reads = rereads_older c y.number (Shown (says.Grant at it request inst m f stamp ss)) older g w h.1 may (w, called) s

        none : it ≡ g → opening_of (entries older) g ≡ None
        none is = none_before c older at g w h.1 (subst (IsCallIn (entries older) at) is may.in_time.opens.asks.inside) called reads
            (subst (λ (z : CallId). is_open_want (asked_now c older z) ≡ true) is (asks_opens c older at it request inst.serial may.in_time.opens.asked may.in_time.opens.it may.in_time.opens.asks))
            (subst (λ (z : CallId). heard c older z ≡ log older z) is may.in_time.opens.asks.asks.nothing_waits)

        split : (a b : Bool) → same_call it g ≡ a → (same_epoch at e && same_serial inst i) ≡ b → cond b (Some it) (granted_to (entries older) e i) ≡ Some g → cond a (Some (record { mode = m; epoch = at; inst = inst; steady = None })) (opening_of (entries older) g) ≡ Some x → x.inst ≡ i
        split true true p q k o = sym (ap (λ (d : Descriptor). d.inst) (some_same (record { mode = m; epoch = at; inst = inst; steady = None }) x o)) ∙ same_serial_eq inst i (second (same_epoch at e) (same_serial inst i) q)
        split true false p q k o = (let z : (z : Descriptor) × (opening_of (entries older) g ≡ Some z) = granted_opens c older h.1 e i g k in absurd (none_some z.0 (sym (none (same_call_eq it g p)) ∙ z.1)))
        split false true p q k o = absurd (true_false (sym (subst (λ (z : CallId). same_call it z ≡ true) (some_same it g k) (same_call_own it)) ∙ p))
        split false false p q k o = later reads called k o
    over (Shown z) may later s called k o = still (Shown z) may later s called k o
    over z may later s called k o = still z may later s called k o

-- a read that has named what it has opened again took the kept version
reads_now : (c : Config) (t : List Line) (h : IsFollowed c t) (e : EpochId) (i : Serial) (g : CallId) (w : Waiting) (x : Descriptor) → granted_to (entries t) e i ≡ Some g → call_named (entries t) g ≡ Some w → opening_of (entries t) g ≡ Some x → RereadsIn t g w.words × TookFor (reply.Data []) x.inst (log t g) → ReadsNow t g i w.words
reads_now c t h e i g w x granted named opening r = record {
  reads = r.0;
  version = r.1.0;
  rest = answer.Did r.1.1 ∷ [];
  log_is = r.1.2 ∙ ap (λ (j : Serial). answer.Reading j r.1.0 ∷ answer.Did r.1.1 ∷ []) (one_grant c t h e i g w x r.0 named granted opening);
  same = same (same_stamp r.1.0.stamp r.0.2.kept.stamp) refl;
}
  where
    fits : AllFit (script c (entries t) g None) (answer.Reading x.inst r.1.0 ∷ answer.Did r.1.1 ∷ [])
    fits = subst (AllFit (script c (entries t) g None)) r.1.2 (log_fits c t g h (w, named))

    asked : script c (entries t) g None (answer.Reading x.inst r.1.0 ∷ []) ≡ wants c.mounts (is_packed_in c (entries t) w.epoch) None (call.Read r.0.2.fd r.0.2.at r.0.2.len) (begins.Reopens r.0.2.kept r.0.2.last) (answer.Reading x.inst r.1.0 ∷ [])
    asked = script_by c t g w (begins.Reopens r.0.2.kept r.0.2.last) None (answer.Reading x.inst r.1.0 ∷ []) named (r.0.1 ∙ ap Some r.0.2.begins_are) ∙ ap (λ (y : Call). wants c.mounts (is_packed_in c (entries t) w.epoch) None y (begins.Reopens r.0.2.kept r.0.2.last) (answer.Reading x.inst r.1.0 ∷ [])) r.0.2.words_are

    -- another version is closed, which gives no result
    other : (b : Bool) → b ≡ false → Fits (where_packed (is_packed_in c (entries t) w.epoch) (cond b (want.Do x.inst (op.Read r.0.2.at r.0.2.len)) (want.Close x.inst))) (answer.Did r.1.1) → ⊥
    other true e f = true_false e
    other false e f = f

    same : (b : Bool) → same_stamp r.1.0.stamp r.0.2.kept.stamp ≡ b → same_stamp r.1.0.stamp r.0.2.kept.stamp ≡ true
    same true e = e
    same false e = absurd (other (same_stamp r.1.0.stamp r.0.2.kept.stamp) e (subst (λ (v : Want). Fits v (answer.Did r.1.1)) asked fits.1.0))

-- the operation that a call asks, numbered by what its site has asked of the instance, is a step of the call
pub owner_numbered : (c : Config) (t : List Line) → IsFollowed c t → (e : EpochId) (d : CallId) (i : Serial) (o : Op) → IsCallIn (entries t) e d → epoch_of (entries t) d.site ≡ Some e → Asks c t d (want.Do i o) → call_of_act (entries t) e i (ops_asked c t i) ≡ Some d
owner_numbered c t h e d i o inside there asks = over (comes_from c t h e d i inside (op_had c t d i o h (inside.accepted, inside.named) asks.asked))
  where
    n : ℕ
    n = ops_asked c t i

    by_use : IsUser (entries t) e i d → call_of_act (entries t) e i n ≡ Some d
    by_use u = last (owner_act c t e d i o h inside asks)
      where
        g : CallId
        g = u.for.granted

        by : GrantIs t e i g
        by = granted_is c t h e i g u.for.is_granted

        site : g.site ≡ d.site
        site = sym by.us_is ∙ user_us c t h e i d u

        now : IsNow t g
        now = one_boot c t e g d h by.inside inside site ∙ (boot_where_inside c t d e h inside there ∙ ap (boot_of (entries t)) (sym site))

        opened : (x : Descriptor) × (opening_of (entries t) g ≡ Some x)
        opened = granted_opens c t h e i g u.for.is_granted

        -- what it was granted last is this instance, and of a read that has opened it again its operation counts as a use
        counts : NamedSo t g u.for.caller.words opened.0 → n ≡ length (uses_of (entries t) e i)
        counts (inl o) = plus_none n (length (uses_of (entries t) e i)) (counted c t h e i g u.for.caller u.for.is_granted now u.for.named (inl o))
        counts (inr r) = plus_none n (length (uses_of (entries t) e i)) (counted c t h e i g u.for.caller u.for.is_granted now u.for.named (inr (inl (reads_now c t h e i g u.for.caller opened.0 u.for.is_granted u.for.named opened.1 r))) ∙ ap (λ (b : Bool). length (uses_of (entries t) e i) + cond b 0 1) u.for.answered)

        count : n ≡ length (uses_of (entries t) e i)
        count = counts (namers_open c t h g u.for.caller opened.0 u.for.named u.for.answered opened.1)

        last : ((m : ℕ) → call_of_act (entries t) e i m ≡ Some d) ⊎ (call_of_act (entries t) e i (length (uses_of (entries t) e i)) ≡ Some d) → call_of_act (entries t) e i n ≡ Some d
        last (inl all) = all n
        last (inr one) = ap (call_of_act (entries t) e i) count ∙ one

    over : (granted_to (entries t) e i ≡ Some d) ⊎ (begun (entries t) d ≡ Some (begins.Uses e i)) → call_of_act (entries t) e i n ≡ Some d
    over (inl g) = ap (unless_named (entries t) (use_number (uses_of (entries t) e i) n)) g ∙ ap (λ (b : Bool). cond b (use_number (uses_of (entries t) e i) n) (Some d)) (asker_unnamed c t d h (asking c t d (want.Do i o) asks))
    over (inr b) = by_use (begun_user c t e i d h inside b)
