-- Of an instance that a descriptor names as many operations were asked as there are uses of it, line by line.
use Rattle.std.proofs.Common.{◌≡◌, ℕ, ◌+◌, ◌==◌, Bool, true, false, cond, ◌&&◌, ◌||◌, List, [], ◌∷◌, Option, Some, length, refl, sym, ◌∙◌, ap, subst, arith, suc, ◌⊎◌, inl, inr}
use Rattle.std.proofs.lemmas.Bool.Decides.{nat_tests}
use Rattle.std.specs.Prelude.{nat_lt}
use Rattle.role_steps.proofs.of_plain_facts.Numbers.{equal, equal_self}
use Rattle.role_steps.proofs.of_plain_facts.Options.{none_some, some_same}
use Rattle.role_steps.proofs.of_plain_facts.Tests.{true_false}
use Rattle.locus_ids.specs.declared.config.Config.{Config}
use Rattle.locus_ids.specs.declared.ids.CallId.{CallId}
use Rattle.locus_ids.specs.declared.ids.EpochId.{EpochId}
use Rattle.locus_ids.specs.declared.ids.FileId.{FileId}
use Rattle.locus_ids.specs.declared.ids.Mode.{Mode}
use Rattle.locus_ids.specs.declared.ids.Serial.{Serial}
use Rattle.locus_ids.specs.declared.ids.Stamp.{Stamp}
use Rattle.trace_book.specs.Same.{same_call, same_epoch, same_serial}
use Rattle.trace_book.specs.declared.call.Call.{Call}
use Rattle.trace_book.specs.declared.descriptor.Descriptor.{Descriptor}
use Rattle.trace_book.specs.declared.record.Record.TheVariants as says
use Rattle.trace_book.specs.declared.reply.Reply.{Reply}
use Rattle.trace_book.specs.declared.reply.Reply.TheVariants as reply
use Rattle.call_rules.specs.declared.answer.Answer.{Answer}
use Rattle.role_steps.specs.Views.{Told, Shown, Takes}
use Rattle.the_run.specs.Worlds.{Line}
use Rattle.tree_model.specs.declared.accepted.Waiting.{Waiting}
use Rattle.tree_model.specs.Calls.{call_named, granted_to, opening_of}
use Rattle.tree_model.specs.Epochs.{boot_of}
use Rattle.lawful_trace.specs.Tables.{has_named, uses_of, is_opening, names_instance}
use Rattle.tree_laws.specs.Printed.{entries}
use Rattle.tree_laws.specs.Calls.{log}
use Rattle.tree_laws.specs.Following.{IsFollowed, MayTell, RepliesNaming, TookFor}
use Rattle.tree_laws.specs.Serials.{ops_asked}
use Rattle.tree_laws.proofs.Counting.{IsNow}
use Rattle.tree_laws.proofs.Descriptors.{opening_is}
use Rattle.tree_laws.proofs.Names.{same_call_eq, same_call_own, same_epoch_own, same_serial_own}
use Rattle.tree_laws.proofs.Orders.ProcessGranting.{GrantIs, granted_is}
use Rattle.tree_laws.proofs.Orders.ProcessOnce.{counts_up, granted_split, GrantsNow}
use Rattle.store_laws.proofs.ScriptNaming.{named_opens, Opens, RereadsIn, named_reads}
use Rattle.store_laws.proofs.AnswerAskers.{With}
use Rattle.store_laws.proofs.AnswerUnasked.{boot_unasked}
use Rattle.trace_book.specs.declared.descriptor.OneVersion.{OneVersion}
use Rattle.trace_book.specs.declared.call.OpenMode.{OpenMode}
use Rattle.trace_book.specs.declared.operation.Outcome.{Outcome}
use Rattle.tree_laws.proofs.Naming.{all_opening, open_inside}
use Rattle.tree_laws.proofs.CarriedLooks.{one_epoch}
use Rattle.tree_laws.proofs.Orders.ProcessOneDescriptor.{waiting_unnamed}
use Rattle.store_laws.proofs.AnswerNaming.{granted_opens, no_uses}
use Rattle.call_rules.specs.declared.answer.Answer.TheVariants as answer
use Rattle.trace_book.specs.declared.call.Call.TheVariants as call
use Rattle.store_laws.proofs.AnswerCounting.{Counted, Counts, ReadsNow, counted_older, counts_accept, counts_take, due, due_older, opens_first, rereads_older}

counts_grant : (c : Config) (n : ℕ) (at : EpochId) (it : CallId) (request : ℕ) (inst : Serial) (m : Mode) (f : FileId) (stamp : Option Stamp) (ss : ℕ) (older : List Line) → IsFollowed c older → MayTell c older (Shown (says.Grant at it request inst m f stamp ss)) → Counts c older → Counts c (With n (Shown (says.Grant at it request inst m f stamp ss)) older)
counts_grant c n at it request inst m f stamp ss older h may k e i g w granted now named q = over (granted_split c n x older e i g may granted) q
  where
    x : Told
    x = Shown (says.Grant at it request inst m f stamp ss)

    none : (p u d : ℕ) → p ≡ 0 → u ≡ 0 → d ≡ 0 → p ≡ u + d
    none p u d a b e = omega (arith, a, b, e)

    over : (granted_to (entries older) e i ≡ Some g) ⊎ GrantsNow c older e i g → (q : Counted (With n x older) g i w.words) → ops_asked c older i ≡ length (uses_of (entries older) e i) + due (With n x older) g i w.words q
    over (inl old) q = k e i g w old now named (counted_older c n x older g i w h may (w, named) refl q) ∙ ap (λ (d : ℕ). length (uses_of (entries older) e i) + d) (due_older c n x older g i w h may (w, named) refl refl q)
    over (inr new) q = none (ops_asked c older i) (length (uses_of (entries older) e i)) (due (With n x older) g i w.words q) (boot_unasked c older h e g i new.inside now new.opens (granted_is c (With n x older) (may, h) e i g granted).us_is new.serial)
        (ap length (no_uses c older h e i new.new)) (zero q)
      where
        zero : (q : Counted (With n x older) g i w.words) → due (With n x older) g i w.words q ≡ 0
        zero (inl o) = refl
        zero (inr (inr r)) = refl
        zero (inr (inl r)) = absurd (opens_first c older g w (rereads_older c n x older g w h may (w, named) r.reads) named new.opens (answer.Reading i r.version) r.rest r.log_is)

counts_up_line : (c : Config) (n s boot : ℕ) (older : List Line) → IsFollowed c older → MayTell c older (Shown (says.Up s boot)) → Counts c older → Counts c (With n (Shown (says.Up s boot)) older)
counts_up_line c n s boot older h may k e i g w granted now named q = count (s == i.us) refl ∙ (k e i g w granted old_boot named (counted_older c n (Shown (says.Up s boot)) older g i w h may (w, named) refl q)
    ∙ ap (λ (d : ℕ). length (uses_of (entries older) e i) + d) (due_older c n (Shown (says.Up s boot)) older g i w h may (w, named) refl refl q))
  where
    by : GrantIs older e i g
    by = granted_is c older h e i g granted

    old_boot : IsNow older g
    old_boot = (counts_up c n (Shown (says.Up s boot)) older g h may (by.inside.accepted, by.inside.named) now).0

    other : s ≡ g.site → ⊥
    other same = over (boot_of (entries older) s) (ap (boot_of (entries older)) same ∙ (sym old_boot ∙ (now ∙ ap (λ (b : Bool). cond b boot (boot_of (entries older) g.site)) (ap (λ (m : ℕ). m == g.site) same ∙ equal_self g.site)))) may.row.above
      where
        over : (p : ℕ) → p ≡ boot → nat_lt p boot ≡ true → ⊥
        over p e t = grind (arith, nat_tests)

    count : (b : Bool) → (s == i.us) ≡ b → cond b 0 (ops_asked c older i) ≡ ops_asked c older i
    count true t = absurd (other (equal s i.us t ∙ by.us_is))
    count false t = refl

open_reads : (path : List ℕ) (how : OpenMode) (fd at len : ℕ) → call.Open path how ≡ call.Read fd at len → ⊥
open_reads path how fd at len e = cc

module _ (c : Config) (n s process : ℕ) (it : CallId) (older : List Line) (h : IsFollowed c older) (k : Counts c older) (e : EpochId) (i : Serial) (g : CallId) (w : Waiting) (granted : granted_to (entries older) e i ≡ Some g) (now : IsNow older g) (named : call_named (entries older) g ≡ Some w) where
  abbrev answered : Reply → List Line
  answered y = With n (Shown (says.Answer s process it y)) older

  abbrev us : List CallId
  us = uses_of (entries older) e i

  no_open : (words : Call) → Opens words → RereadsIn older g words → ⊥
  no_open words o r = open_reads o.path o.how r.2.fd r.2.at r.2.len (sym o.words_are ∙ r.2.words_are)

  opened : (x : Descriptor) × (opening_of (entries older) g ≡ Some x)
  opened = granted_opens c older h e i g granted

  -- a line that names nothing of the call
  uses_same : (y : Reply) → (same_call it g && names_instance y) ≡ false → uses_of (entries (answered y)) e i ≡ us
  uses_same (reply.Data bytes) f = over (is_opening (opening_of (entries older) it) e i) refl
    where
      over : (b : Bool) → is_opening (opening_of (entries older) it) e i ≡ b → cond b (it ∷ us) us ≡ us
      over false t = refl
      over true t = (let o : (x : Descriptor) × (opening_of (entries older) it ≡ Some x) × (x.epoch ≡ e) × (x.inst ≡ i) = opening_is (opening_of (entries older) it) e i t in
          let mine : granted_to (entries older) e i ≡ Some it = subst (λ (j : Serial). granted_to (entries older) e j ≡ Some it) o.3 (subst (λ (y : EpochId). granted_to (entries older) y o.0.inst ≡ Some it) o.2 (all_opening c older h it o.0 o.1)) in
          absurd (true_false (sym (ap (λ (b : Bool). b && true) (subst (λ (z : CallId). same_call it z ≡ true) (some_same it g (sym mine ∙ granted)) (same_call_own it))) ∙ f)))
  uses_same _ f = refl

  -- the read names what it has opened again: it was due, and is the first use from now on
  names_again : (bytes : List ℕ) → MayTell c older (Shown (says.Answer s process it (reply.Data bytes))) → it ≡ g → (r : ReadsNow (answered (reply.Data bytes)) g i w.words) → ops_asked c older i ≡ length (uses_of (entries (answered (reply.Data bytes))) e i) + cond (has_named (entries (answered (reply.Data bytes))) g) 0 1
  names_again bytes may is r = step (ops_asked c older i) (length us) (old ∙ ap (λ (b : Bool). length us + cond b 0 1) unnamed)
      ∙ sym (ap (λ (b : Bool). length (cond b (it ∷ us) us) + cond (has_named (entries (answered (reply.Data bytes))) g) 0 1) test ∙ ap (λ (b : Bool). length (it ∷ us) + cond b 0 1) names)
    where
      replies : RepliesNaming c older g (reply.Data bytes)
      replies = subst (λ (z : CallId). RepliesNaming c older z (reply.Data bytes)) is may.in_time

      step : (p m : ℕ) → p ≡ m + 1 → p ≡ suc m + 0
      step p m q = omega (arith, q)

      old : ops_asked c older i ≡ length us + cond (has_named (entries older) g) 0 1
      old = k e i g w granted now named (inr (inl (record { reads = rereads_older c n (Shown (says.Answer s process it (reply.Data bytes))) older g w h may (w, named) r.reads; version = r.version; rest = r.rest; log_is = r.log_is; same = r.same })))

      unnamed : has_named (entries older) g ≡ false
      unnamed = over (has_named (entries older) g) refl
        where
          over : (b : Bool) → has_named (entries older) g ≡ b → has_named (entries older) g ≡ false
          over false t = t
          over true t = absurd (waiting_unnamed c older s process it (reply.Data bytes) h may (subst (λ (z : CallId). has_named (entries older) z ≡ true) (sym is) t))

      same_inst : (j : Serial) (v u : OneVersion) (ps qs : List Answer) → answer.Reading j v ∷ ps ≡ answer.Reading i u ∷ qs → j ≡ i
      same_inst j v u ps qs m = cc

      took : TookFor (reply.Data bytes) opened.0.inst (log older g)
      took = replies.took opened.0 opened.1

      inst_is : opened.0.inst ≡ i
      inst_is = same_inst opened.0.inst took.0 r.version (answer.Did took.1 ∷ []) r.rest (sym took.2 ∙ r.log_is)

      epoch_is : opened.0.epoch ≡ e
      epoch_is = one_epoch older opened.0.epoch e g (open_inside c older h g opened.0 opened.1) (granted_is c older h e i g granted).inside

      and_true : (p q : Bool) → p ≡ true → q ≡ true → p && q ≡ true
      and_true true q a z = z
      and_true false q a z = absurd (true_false (sym a))

      test : is_opening (opening_of (entries older) it) e i ≡ true
      test = ap (λ (o : Option Descriptor). is_opening o e i) (subst (λ (z : CallId). opening_of (entries older) z ≡ Some opened.0) (sym is) opened.1)
          ∙ and_true (same_epoch opened.0.epoch e) (same_serial opened.0.inst i) (subst (λ (y : EpochId). same_epoch opened.0.epoch y ≡ true) epoch_is (same_epoch_own opened.0.epoch)) (subst (λ (j : Serial). same_serial opened.0.inst j ≡ true) inst_is (same_serial_own opened.0.inst))

      names : has_named (entries (answered (reply.Data bytes))) g ≡ true
      names = ap (λ (b : Bool). b && true || has_named (entries older) g) (subst (λ (z : CallId). same_call it z ≡ true) is (same_call_own it))

  named_now : (y : Reply) → MayTell c older (Shown (says.Answer s process it y)) → names_instance y ≡ true → it ≡ g → (q : Counted (answered y) g i w.words) → ops_asked c older i ≡ length (uses_of (entries (answered y)) e i) + due (answered y) g i w.words q
  named_now (reply.Opened fd) may names is (inl o) = k e i g w granted now named (inl o)
  named_now (reply.Opened fd) may names is (inr (inl r)) = absurd (no_open w.words (named_opens c older g opened.0 fd w h (subst (λ (z : CallId). RepliesNaming c older z (reply.Opened fd)) is may.in_time) opened.1 named) (rereads_older c n (Shown (says.Answer s process it (reply.Opened fd))) older g w h may (w, named) r.reads))
  named_now (reply.Opened fd) may names is (inr (inr r)) = absurd (no_open w.words (named_opens c older g opened.0 fd w h (subst (λ (z : CallId). RepliesNaming c older z (reply.Opened fd)) is may.in_time) opened.1 named) (rereads_older c n (Shown (says.Answer s process it (reply.Opened fd))) older g w h may (w, named) r.0))
  named_now (reply.Data bytes) may names is (inl o) = absurd (no_open w.words o (named_reads c older g opened.0 bytes w (subst (λ (z : CallId). RepliesNaming c older z (reply.Data bytes)) is may.in_time) opened.1 named))
  named_now (reply.Data bytes) may names is (inr (inl r)) = names_again bytes may is r
  named_now (reply.Data bytes) may names is (inr (inr r)) = absurd (taken (log older g) took.0 took.1 took.2 r.1)
    where
      took : TookFor (reply.Data bytes) opened.0.inst (log older g)
      took = (subst (λ (z : CallId). RepliesNaming c older z (reply.Data bytes)) is may.in_time).took opened.0 opened.1

      taken : (xs : List Answer) (v : OneVersion) (o : Outcome) → xs ≡ answer.Reading opened.0.inst v ∷ answer.Did o ∷ [] → xs ≡ [] → ⊥
      taken xs v o a b = cc
  named_now _ may names is q = absurd (true_false (sym names))

  pub counts_answer : (y : Reply) → MayTell c older (Shown (says.Answer s process it y)) → (q : Counted (answered y) g i w.words) → ops_asked c older i ≡ length (uses_of (entries (answered y)) e i) + due (answered y) g i w.words q
  counts_answer y may q = over (same_call it g && names_instance y) refl
    where
      first : (p z : Bool) → p && z ≡ true → p ≡ true
      first true z m = refl
      first false z m = absurd (true_false (sym m))

      second : (p z : Bool) → p && z ≡ true → z ≡ true
      second true z m = m
      second false z m = absurd (true_false (sym m))

      over : (b : Bool) → (same_call it g && names_instance y) ≡ b → ops_asked c older i ≡ length (uses_of (entries (answered y)) e i) + due (answered y) g i w.words q
      over true t = named_now y may (second (same_call it g) (names_instance y) t) (same_call_eq it g (first (same_call it g) (names_instance y) t)) q
      over false f = k e i g w granted now named (counted_older c n (Shown (says.Answer s process it y)) older g i w h may (w, named) refl q)
          ∙ (ap (λ (d : ℕ). length us + d) (due_older c n (Shown (says.Answer s process it y)) older g i w h may (w, named) refl (ap (λ (b : Bool). b || has_named (entries older) g) f) q)
          ∙ ap (λ (xs : List CallId). length xs + due (answered y) g i w.words q) (sym (uses_same y f)))

-- a line of another sort
counts_still : (c : Config) (n : ℕ) (x : Told) (older : List Line) → IsFollowed c older → MayTell c older x → Counts c older → (e : EpochId) (i : Serial) (g : CallId) (w : Waiting) → granted_to (entries older) e i ≡ Some g → IsNow older g → call_named (entries older) g ≡ Some w → log (With n x older) g ≡ log older g → has_named (entries (With n x older)) g ≡ has_named (entries older) g → (q : Counted (With n x older) g i w.words) →
    ops_asked c older i ≡ length (uses_of (entries older) e i) + due (With n x older) g i w.words q
counts_still c n x older h may k e i g w granted now named logs names q = k e i g w granted now named (counted_older c n x older g i w h may (w, named) logs q) ∙ ap (λ (d : ℕ). length (uses_of (entries older) e i) + d) (due_older c n x older g i w h may (w, named) logs names q)

counts_told : (c : Config) (n : ℕ) (x : Told) (older : List Line) → IsFollowed c older → MayTell c older x → Counts c older → Counts c (With n x older)
counts_told c n (Shown (says.Accept s process new words)) older h may k e i g w granted now named q = counts_accept c n s process new words older h may k e i g w granted now named q
counts_told c n (Takes s it request times a) older h may k e i g w granted now named q = counts_take c n s it request times a older h may k e i g w granted now named q
counts_told c n (Shown (says.Grant at it request inst m f stamp ss)) older h may k e i g w granted now named q = counts_grant c n at it request inst m f stamp ss older h may k e i g w granted now named q
counts_told c n (Shown (says.Up s boot)) older h may k e i g w granted now named q = counts_up_line c n s boot older h may k e i g w granted now named q
counts_told c n (Shown (says.Answer s process it y)) older h may k e i g w granted now named q = counts_answer c n s process it older h k e i g w granted now named y may q
counts_told c n (Shown r) older h may k e i g w granted now named q = counts_still c n (Shown r) older h may k e i g w granted now named refl refl q
counts_told c n x older h may k e i g w granted now named q = counts_still c n x older h may k e i g w granted now named refl refl q

pub counted : (c : Config) (t : List Line) → IsFollowed c t → Counts c t
counted c [] h e i g w granted now named q = absurd (none_some g granted)
counted c (x ∷ older) h e i g w granted now named q = counts_told c x.number x.told older h.1 h.0 (counted c older h.1) e i g w granted now named q
