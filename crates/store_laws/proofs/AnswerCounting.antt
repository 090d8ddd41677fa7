-- Of an instance that a descriptor names as many operations were asked as there are uses of it: the operation of a read that opens a version
-- again is due until its reply has come. A call begins, or takes an answer.
use Rattle.std.proofs.Common.{◌≡◌, ℕ, ◌+◌, ◌==◌, Bool, true, false, not, cond, ◌&&◌, List, [], ◌∷◌, ◌++◌, Some, None, length, refl, sym, ◌∙◌, ap, subst, arith, suc, ◌⊎◌, inl, inr}
use Rattle.role_steps.proofs.of_plain_facts.Numbers.{equal_self}
use Rattle.role_steps.proofs.of_plain_facts.Options.{some_same}
use Rattle.role_steps.proofs.of_plain_facts.Tests.{true_false}
use Rattle.locus_ids.specs.declared.config.Config.{Config}
use Rattle.locus_ids.specs.declared.ids.CallId.{CallId}
use Rattle.locus_ids.specs.declared.ids.EpochId.{EpochId}
use Rattle.locus_ids.specs.declared.ids.Serial.{Serial}
use Rattle.trace_book.specs.Same.{same_call, same_epoch, same_serial}
use Rattle.trace_book.specs.declared.call.Call.{Call}
use Rattle.trace_book.specs.declared.descriptor.Beginning.{Beginning}
use Rattle.trace_book.specs.declared.descriptor.Beginning.TheVariants as begins
use Rattle.trace_book.specs.declared.operation.Op.{Op}
use Rattle.trace_book.specs.declared.record.Record.TheVariants as says
use Rattle.call_rules.specs.declared.answer.Answer.{Answer}
use Rattle.call_rules.specs.declared.want.Want.TheVariants as want
use Rattle.call_rules.specs.Scripts.{wants}
use Rattle.role_steps.specs.Views.{Told, Shown, Takes}
use Rattle.the_run.specs.Worlds.{Line}
use Rattle.tree_model.specs.declared.accepted.Waiting.{Waiting}
use Rattle.tree_model.specs.Calls.{accepted_as, call_named, granted_to}
use Rattle.tree_model.specs.Epochs.{epoch_of}
use Rattle.lawful_trace.specs.Progress.{is_packed_in}
use Rattle.lawful_trace.specs.Tables.{begins_now, begun, descriptor, has_named, is_close, uses_by, uses_of}
use Rattle.lawful_trace.specs.TreeRows.{IsCallIn}
use Rattle.tree_laws.specs.Printed.{entries}
use Rattle.tree_laws.specs.Calls.{is_request, log, script}
use Rattle.tree_laws.specs.Following.{IsFollowed, MayTell}
use Rattle.tree_laws.specs.Serials.{asked_now, is_op_on, ops_asked, is_open_want}
use Rattle.tree_laws.proofs.Answered.{asker_unnamed}
use Rattle.tree_laws.proofs.Awaiting.{all_have}
use Rattle.tree_laws.proofs.Counting.{IsNow}
use Rattle.tree_laws.proofs.Descriptors.{uses_from, uses_is}
use Rattle.tree_laws.proofs.Fresh.{calls_are_low, IsNamed, next_is_new, numbered}
use Rattle.tree_laws.proofs.Having.{named_or_untaken, Untaken}
use Rattle.tree_laws.proofs.Names.{same_call_eq, same_call_own, same_epoch_own, same_serial_own}
use Rattle.tree_laws.proofs.Scripts.{named_stays, begun_stays}
use Rattle.tree_laws.proofs.Orders.ProcessBegun.{asked_fits, Fits}
use Rattle.tree_laws.proofs.Orders.ProcessGranting.{GrantIs, granted_is, user_us}
use Rattle.tree_laws.proofs.Orders.ProcessHad.{begun_user}
use Rattle.tree_laws.proofs.Orders.ProcessOperations.{accept_turn, IsTurn, op_is, take_turn}
use Rattle.store_laws.proofs.ScriptNaming.{Opens, RereadsIn, script_by}
use Rattle.store_laws.proofs.AnswerAskers.{With}
use Rattle.store_laws.proofs.AnswerScripting.{AsksNoOp, opener_no_op, script_is, use_asks, user_no_more, first_no_op, later_no_op, again_asks}
use Rattle.trace_book.specs.declared.descriptor.OneVersion.{OneVersion}
use Rattle.commit_graph.specs.Versions.{same_stamp}
use Rattle.store_laws.proofs.AnswerNaming.{asker_uses}
use Rattle.store_laws.proofs.ScriptReopening.{taken_shut}
use Rattle.call_rules.specs.declared.answer.Answer.TheVariants as answer
use Rattle.trace_book.specs.declared.call.Call.TheVariants as call

-- ---- counts ----

-- a read that opens a version again, and has taken its instance, of the kept version
pub record ReadsNow (t : List Line) (g : CallId) (i : Serial) (words : Call) : Type 0 where
  pub reads : RereadsIn t g words
  pub version : OneVersion
  pub rest : List Answer
  pub log_is : log t g ≡ answer.Reading i version ∷ rest
  pub same : same_stamp version.stamp reads.2.kept.stamp ≡ true

-- the call opens a file; or is such a read, or one that has taken nothing yet
abbrev pub Counted : List Line → CallId → Serial → Call → Type 0
Counted t g i words = Opens words ⊎ (ReadsNow t g i words ⊎ (RereadsIn t g words × (log t g ≡ [])))

-- the operation of a read counts as a use once its reply has come
abbrev pub due : (t : List Line) (g : CallId) (i : Serial) (words : Call) → Counted t g i words → ℕ
due t g i words (inl o) = 0
due t g i words (inr (inl k)) = cond (has_named (entries t) g) 0 1
due t g i words (inr (inr k)) = 0

-- of an instance that a descriptor is to name as many operations were asked as it was used, or one that is due
abbrev pub Counts : Config → List Line → Type 0
Counts c t = (e : EpochId) (i : Serial) (g : CallId) (w : Waiting) → granted_to (entries t) e i ≡ Some g → IsNow t g → call_named (entries t) g ≡ Some w → (k : Counted t g i w.words) → ops_asked c t i ≡ length (uses_of (entries t) e i) + due t g i w.words k

-- a line at which the call begins nothing, and takes nothing
abbrev pub rereads_older : (c : Config) (n : ℕ) (x : Told) (older : List Line) (g : CallId) (w : Waiting) → IsFollowed c older → MayTell c older x → IsNamed (entries older) g → RereadsIn (With n x older) g w.words → RereadsIn older g w.words
rereads_older c n x older g w h may named r = (r.0, sym (begun_stays c n x older g h may named) ∙ r.1, r.2)

abbrev pub counted_older : (c : Config) (n : ℕ) (x : Told) (older : List Line) (g : CallId) (i : Serial) (w : Waiting) → IsFollowed c older → MayTell c older x → IsNamed (entries older) g → log (With n x older) g ≡ log older g → Counted (With n x older) g i w.words → Counted older g i w.words
counted_older c n x older g i w h may named same (inl o) = inl o
counted_older c n x older g i w h may named same (inr (inl k)) = inr (inl (record { reads = rereads_older c n x older g w h may named k.reads; version = k.version; rest = k.rest; log_is = sym same ∙ k.log_is; same = k.same }))
counted_older c n x older g i w h may named same (inr (inr k)) = inr (inr (rereads_older c n x older g w h may named k.0, sym same ∙ k.1))

-- what is due is as it was, where nothing is named
pub due_older : (c : Config) (n : ℕ) (x : Told) (older : List Line) (g : CallId) (i : Serial) (w : Waiting) (h : IsFollowed c older) (may : MayTell c older x) (named : IsNamed (entries older) g) (same : log (With n x older) g ≡ log older g) → has_named (entries (With n x older)) g ≡ has_named (entries older) g → (k : Counted (With n x older) g i w.words) → due older g i w.words (counted_older c n x older g i w h may named same k) ≡ due (With n x older) g i w.words k
due_older c n x older g i w h may named same e (inl o) = refl
due_older c n x older g i w h may named same e (inr (inl k)) = ap (λ (b : Bool). cond b 0 1) (sym e)
due_older c n x older g i w h may named same e (inr (inr k)) = refl

-- of a read that has taken something nothing is opened any more
module _ (c : Config) (t : List Line) (g : CallId) (w : Waiting) (r : RereadsIn t g w.words) (named : call_named (entries t) g ≡ Some w) where
  starts : begun (entries t) g ≡ Some (begins.Reopens r.2.kept r.2.last)
  starts = r.1 ∙ ap Some r.2.begins_are

  pub none_first : log t g ≡ [] → AsksNoOp (asked_now c t g)
  none_first e = first_no_op c t g w r.2.fd r.2.at r.2.len r.2.kept r.2.last named r.2.words_are starts e

  pub none_later : (i : Serial) (version : OneVersion) (a : Answer) (xs : List Answer) → log t g ≡ answer.Reading i version ∷ (a ∷ xs) → AsksNoOp (asked_now c t g)
  none_later i version a xs e = later_no_op c t g w r.2.fd r.2.at r.2.len r.2.kept r.2.last named r.2.words_are starts i version a xs e

  pub one_now : (i : Serial) (version : OneVersion) → log t g ≡ answer.Reading i version ∷ [] → same_stamp version.stamp r.2.kept.stamp ≡ true → is_op_on i (asked_now c t g) ≡ true
  one_now i version e same = again_asks c t g w r.2.fd r.2.at r.2.len r.2.kept r.2.last named r.2.words_are starts i version e same

  pub opens_first : is_open_want (asked_now c t g) ≡ true → (a : Answer) (xs : List Answer) → log t g ≡ a ∷ xs → ⊥
  opens_first opens a xs e = true_false (sym opens ∙ (ap is_open_want (script_by c t g w (begins.Reopens r.2.kept r.2.last) None (log t g) named starts)
      ∙ (ap (λ (y : Call). is_open_want (wants c.mounts (is_packed_in c (entries t) w.epoch) None y (begins.Reopens r.2.kept r.2.last) (log t g))) r.2.words_are
      ∙ (ap (λ (ys : List Answer). is_open_want (wants c.mounts (is_packed_in c (entries t) w.epoch) None (call.Read r.2.fd r.2.at r.2.len) (begins.Reopens r.2.kept r.2.last) ys)) e
      ∙ taken_shut c.mounts (is_packed_in c (entries t) w.epoch) None r.2.fd r.2.at r.2.len r.2.kept r.2.last a xs))))

pub counts_accept : (c : Config) (n s process : ℕ) (new : CallId) (words : Call) (older : List Line) → IsFollowed c older → MayTell c older (Shown (says.Accept s process new words)) → Counts c older → Counts c (With n (Shown (says.Accept s process new words)) older)
counts_accept c n s process new words older h may k e i g w granted now named q = over asks_it uses_it refl refl
  where
    x : Told
    x = Shown (says.Accept s process new words)

    t : List Line
    t = With n x older

    turn : IsTurn c n x older new i
    turn = accept_turn c n s process new words older i h may

    b : Beginning
    b = begins_now (entries older) s process new words

    caller : Waiting
    caller = accepted_as (entries older) s process new words

    named_is : call_named (entries t) new ≡ Some caller
    named_is = ap (λ (z : Bool). cond z (Some caller) (call_named (entries older) new)) (same_call_own new)

    begun_is : begun (entries t) new ≡ Some b
    begun_is = ap (λ (z : Bool). cond z (Some b) (begun (entries older) new)) (same_call_own new)

    asks_it : Bool
    asks_it = (new.site == i.us) && is_op_on i (asked_now c t new)

    uses_it : Bool
    uses_it = not (is_close words) && uses_by b e i

    by : GrantIs older e i g
    by = granted_is c older h e i g granted

    is_named : IsNamed (entries older) g
    is_named = (by.inside.accepted, by.inside.named)

    d : ℕ
    d = due t g i w.words q

    before : ops_asked c older i ≡ length (uses_of (entries older) e i) + d
    before = k e i g w granted (now ∙ turn.turned.boots g.site) (sym (named_stays c n x older g h may is_named) ∙ named) (counted_older c n x older g i w h may is_named refl q)
        ∙ ap (λ (m : ℕ). length (uses_of (entries older) e i) + m) (due_older c n x older g i w h may is_named refl refl q)

    other : g ≡ new → ⊥
    other is = next_is_new (entries older) s new (calls_are_low c older h new (subst (IsNamed (entries older)) is is_named)) (numbered c (entries older) s process new words may.row)

    both : (p q : Bool) → p && q ≡ true → (p ≡ true) × (q ≡ true)
    both true q z = (refl, z)
    both false q z = absurd (true_false (sym z))

    and_true : (p q : Bool) → p ≡ true → q ≡ true → p && q ≡ true
    and_true true q a z = z
    and_true false q a z = absurd (true_false (sym a))

    not_is : (p : Bool) → not p ≡ true → p ≡ false
    not_is true z = absurd (true_false (sym z))
    not_is false z = refl

    asked_uses : asks_it ≡ true → uses_it ≡ true
    asked_uses z = and_true (not (is_close words)) (uses_by b e i) (ap not plain) (ap (λ (y : Beginning). uses_by y e i) (some_same b (begins.Uses e i) (sym begun_is ∙ starts)) ∙ and_true (same_epoch e e) (same_serial i i) (same_epoch_own e) (same_serial_own i))
      where
        o : (o : Op) × (asked_now c t new ≡ want.Do i o)
        o = op_is i (asked_now c t new) (both (new.site == i.us) (is_op_on i (asked_now c t new)) z).1

        starts : begun (entries t) new ≡ Some (begins.Uses e i)
        starts = asker_uses c t (may, h) e i g granted now new o.0 other (caller, named_is) (turn.turned.now ∙ sym (turn.turned.boots new.site)) o.1

        plain : is_close words ≡ false
        plain = subst (Fits (is_close words)) o.1 (asked_fits c t new caller e i named_is starts)

    used_asks : uses_it ≡ true → asks_it ≡ true
    used_asks z = and_true (new.site == i.us) (is_op_on i (asked_now c t new)) (ap (λ (m : ℕ). new.site == m) us ∙ equal_self new.site) (ap (is_op_on i) asked ∙ use_asks c.mounts (is_packed_in c (entries t) caller.epoch) (descriptor (entries older) s process) (epoch_of (entries older) s) new words e i at plain)
      where
        plain : is_close words ≡ false
        plain = not_is (is_close words) (both (not (is_close words)) (uses_by b e i) z).0

        at : b ≡ begins.Uses e i
        at = uses_is b e i (both (not (is_close words)) (uses_by b e i) z).1

        starts : begun (entries t) new ≡ Some (begins.Uses e i)
        starts = begun_is ∙ ap Some at

        inside : IsCallIn (entries t) e new
        inside = record { accepted = caller; named = named_is; made_in = (uses_from (descriptor (entries older) s process) (epoch_of (entries older) s) new words e i at).inside }

        us : i.us ≡ new.site
        us = user_us c t (may, h) e i new (begun_user c t e i new (may, h) inside starts)

        nothing : IsNamed (entries older) new ⊎ Untaken c older new → log older new ≡ []
        nothing (inl old) = absurd (next_is_new (entries older) s new (calls_are_low c older h new old) (numbered c (entries older) s process new words may.row))
        nothing (inr u) = u.log_is

        asked : asked_now c t new ≡ wants c.mounts (is_packed_in c (entries t) caller.epoch) None words (begins.Uses e i) []
        asked = ap (script c (entries t) new None) (nothing (named_or_untaken c older h new)) ∙ script_is c t new caller (begins.Uses e i) None [] named_is starts

    over : (p q : Bool) → asks_it ≡ p → uses_it ≡ q → ops_asked c t i ≡ length (cond uses_it (new ∷ uses_of (entries older) e i) (uses_of (entries older) e i)) + d
    over true true p q = turn.count ∙ (ap (λ (z : Bool). cond z (ops_asked c older i + 1) (ops_asked c older i)) p ∙ (one_more (ops_asked c older i) (length (uses_of (entries older) e i)) d before ∙ ap (λ (z : Bool). length (cond z (new ∷ uses_of (entries older) e i) (uses_of (entries older) e i)) + d) (sym q)))
      where
        one_more : (p q d : ℕ) → p ≡ q + d → p + 1 ≡ suc q + d
        one_more p q d e = omega (arith, e)
    over false false p q = turn.count ∙ (ap (λ (z : Bool). cond z (ops_asked c older i + 1) (ops_asked c older i)) p ∙ (before ∙ ap (λ (z : Bool). length (cond z (new ∷ uses_of (entries older) e i) (uses_of (entries older) e i)) + d) (sym q)))
    over true false p q = absurd (true_false (sym (asked_uses p) ∙ q))
    over false true p q = absurd (true_false (sym (used_asks q) ∙ p))

module _ (c : Config) (n s : ℕ) (it : CallId) (request times : ℕ) (a : Answer) (older : List Line) (h : IsFollowed c older) (may : MayTell c older (Takes s it request times a)) (k : Counts c older) (e : EpochId) (i : Serial) (g : CallId) (w : Waiting) (granted : granted_to (entries older) e i ≡ Some g) (now : IsNow older g) (named : call_named (entries older) g ≡ Some w) where
  abbrev t : List Line
  t = With n (Takes s it request times a) older

  turn : IsTurn c n (Takes s it request times a) older it i
  turn = take_turn c n s it request times a older i h may

  abbrev asks_it : Bool
  asks_it = (it.site == i.us) && is_op_on i (asked_now c t it)

  second : (p q : Bool) → p && q ≡ true → q ≡ true
  second true q z = z
  second false q z = absurd (true_false (sym z))

  -- it asks no operation of it, so as many were asked as before
  quiet : (d : ℕ) → AsksNoOp (asked_now c t it) → ops_asked c older i ≡ length (uses_of (entries older) e i) + d → ops_asked c t i ≡ length (uses_of (entries older) e i) + d
  quiet d none before = turn.count ∙ (ap (λ (z : Bool). cond z (ops_asked c older i + 1) (ops_asked c older i)) (no asks_it refl) ∙ before)
    where
      no : (b : Bool) → asks_it ≡ b → asks_it ≡ false
      no false z = z
      no true z = absurd (subst AsksNoOp (op_is i (asked_now c t it) (second (it.site == i.us) (is_op_on i (asked_now c t it)) z)).1 none)

  other_asks : (g ≡ it → ⊥) → (d : ℕ) → ops_asked c older i ≡ length (uses_of (entries older) e i) + d → ops_asked c t i ≡ length (uses_of (entries older) e i) + d
  other_asks apart d before = turn.count ∙ (ap (λ (z : Bool). cond z (ops_asked c older i + 1) (ops_asked c older i)) (no asks_it refl) ∙ before)
    where
      no : (b : Bool) → asks_it ≡ b → asks_it ≡ false
      no false z = z
      no true z = absurd (subst AsksNoOp o.1 (user_no_more c t it e i a (log older it) starts (ap (λ (b : Bool). cond b (log older it ++ a ∷ []) (log older it)) (same_call_own it))))
        where
          o : (o : Op) × (asked_now c t it ≡ want.Do i o)
          o = op_is i (asked_now c t it) (second (it.site == i.us) (is_op_on i (asked_now c t it)) z)

          starts : begun (entries t) it ≡ Some (begins.Uses e i)
          starts = asker_uses c t (may, h) e i g granted now it o.0 apart turn.named (turn.turned.now ∙ sym (turn.turned.boots it.site)) o.1

  log_own : it ≡ g → log t g ≡ log older g ++ a ∷ []
  log_own is = ap (λ (b : Bool). cond b (log older g ++ a ∷ []) (log older g)) (subst (λ (z : CallId). same_call it z ≡ true) is (same_call_own it))

  unnamed : it ≡ g → has_named (entries older) g ≡ false
  unnamed is = asker_unnamed c older g h (subst (λ (z : CallId). is_request (asked_now c older z) ≡ true) is ((all_have c older h).awaits it a turn_named may.answer).asked)
    where
      turn_named : IsNamed (entries older) it
      turn_named = turn.named

  -- the read takes its instance, and asks its operation of it; or takes what comes then, and asks none any more
  takes_own : it ≡ g → (q : ReadsNow t g i w.words) (xs : List Answer) → log older g ≡ xs → ops_asked c t i ≡ length (uses_of (entries older) e i) + cond (has_named (entries older) g) 0 1
  takes_own is q [] old = turn.count ∙ (ap (λ (z : Bool). cond z (ops_asked c older i + 1) (ops_asked c older i)) asks
      ∙ (one_more (ops_asked c older i) (length (uses_of (entries older) e i)) (k e i g w granted now named (inr (inr (q.reads, old))))
      ∙ ap (λ (b : Bool). length (uses_of (entries older) e i) + cond b 0 1) (sym (unnamed is))))
    where
      one_more : (p m : ℕ) → p ≡ m + 0 → p + 1 ≡ m + 1
      one_more p m e = omega (arith, e)

      alone : answer.Reading i q.version ∷ q.rest ≡ a ∷ [] → q.rest ≡ []
      alone z = cc

      here : (it.site == i.us) ≡ true
      here = ap (λ (m : ℕ). it.site == m) ((granted_is c older h e i g granted).us_is ∙ ap (λ (z : CallId). z.site) (sym is)) ∙ equal_self it.site

      last : log t g ≡ answer.Reading i q.version ∷ []
      last = q.log_is ∙ ap (λ (ys : List Answer). answer.Reading i q.version ∷ ys) (alone (sym q.log_is ∙ (log_own is ∙ ap (λ (ys : List Answer). ys ++ a ∷ []) old)))

      asks : asks_it ≡ true
      asks = ap (λ (b : Bool). b && is_op_on i (asked_now c t it)) here ∙ subst (λ (z : CallId). is_op_on i (asked_now c t z) ≡ true) (sym is) (one_now c t g w q.reads named i q.version last q.same)
  takes_own is q (x ∷ xs) old = quiet (cond (has_named (entries older) g) 0 1) (subst (λ (z : CallId). AsksNoOp (asked_now c t z)) (sym is) (none (xs ++ a ∷ []) refl))
      (k e i g w granted now named (inr (inl (record { reads = q.reads; version = q.version; rest = xs; log_is = old ∙ ap (λ (y : Answer). y ∷ xs) first; same = q.same }))))
    where
      whole : answer.Reading i q.version ∷ q.rest ≡ x ∷ (xs ++ a ∷ [])
      whole = sym q.log_is ∙ (log_own is ∙ ap (λ (ys : List Answer). ys ++ a ∷ []) old)

      heads : (y z : Answer) (ps qs : List Answer) → y ∷ ps ≡ z ∷ qs → z ≡ y
      heads y z ps qs m = cc

      tails : (y z : Answer) (ps qs : List Answer) → y ∷ ps ≡ z ∷ qs → ps ≡ qs
      tails y z ps qs m = cc

      first : x ≡ answer.Reading i q.version
      first = heads (answer.Reading i q.version) x q.rest (xs ++ a ∷ []) whole

      empty : (ps : List Answer) → ps ++ a ∷ [] ≡ [] → ⊥
      empty [] m = cc
      empty (p ∷ ps) m = cc

      none : (ys : List Answer) → xs ++ a ∷ [] ≡ ys → AsksNoOp (asked_now c t g)
      none [] m = absurd (empty xs m)
      none (y ∷ ys) m = none_later c t g w q.reads named i q.version y ys (q.log_is ∙ ap (λ (zs : List Answer). answer.Reading i q.version ∷ zs) (tails (answer.Reading i q.version) x q.rest (xs ++ a ∷ []) whole ∙ m))

  pub counts_take : (q : Counted t g i w.words) → ops_asked c t i ≡ length (uses_of (entries older) e i) + due t g i w.words q
  counts_take q = at (same_call it g) refl q
    where
      apart : same_call it g ≡ false → g ≡ it → ⊥
      apart f is = true_false (sym (subst (λ (z : CallId). same_call it z ≡ true) (sym is) (same_call_own it)) ∙ f)

      is_named : IsNamed (entries older) g
      is_named = (w, named)

      empty : (ps : List Answer) → ps ++ a ∷ [] ≡ [] → ⊥
      empty [] m = cc
      empty (p ∷ ps) m = cc

      at : (b : Bool) → same_call it g ≡ b → (q : Counted t g i w.words) → ops_asked c t i ≡ length (uses_of (entries older) e i) + due t g i w.words q
      at false f q = (let same : log t g ≡ log older g = ap (λ (b : Bool). cond b (log older g ++ a ∷ []) (log older g)) f in
          other_asks (apart f) (due t g i w.words q) (k e i g w granted now named (counted_older c n (Takes s it request times a) older g i w h may is_named same q)
          ∙ ap (λ (m : ℕ). length (uses_of (entries older) e i) + m) (due_older c n (Takes s it request times a) older g i w h may is_named same refl q)))
      at true f (inl o) = quiet 0 (subst (λ (z : CallId). AsksNoOp (asked_now c t z)) (sym (same_call_eq it g f)) (opener_no_op c t g w o.path o.how named o.words_are)) (k e i g w granted now named (inl o))
      at true f (inr (inl q)) = takes_own (same_call_eq it g f) q (log older g) refl
      at true f (inr (inr q)) = absurd (empty (log older g) (sym (log_own (same_call_eq it g f)) ∙ q.1))
