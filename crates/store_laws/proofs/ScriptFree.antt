-- While an open waits, its process has a free descriptor: nobody else of the process takes one.
use Rattle.std.proofs.Common.{◌≡◌, ℕ, zero, suc, ◌+◌, ◌==◌, Bool, true, false, not, cond, ◌&&◌, List, [], ◌∷◌, Option, Some, None, refl, sym, ◌∙◌, ap, subst, ◌⊎◌, inl, inr}
use Rattle.std.specs.List.{filter}
use Rattle.role_steps.proofs.of_plain_facts.Numbers.{equal, equal_self}
use Rattle.role_steps.proofs.of_plain_facts.Options.{none_some, some_same}
use Rattle.role_steps.proofs.of_plain_facts.Tests.{true_false}
use Rattle.locus_ids.specs.declared.config.Config.{Config}
use Rattle.locus_ids.specs.declared.ids.CallId.{CallId}
use Rattle.locus_ids.specs.declared.ids.EpochId.{EpochId}
use Rattle.trace_book.specs.Same.{same_call}
use Rattle.trace_book.specs.declared.call.Call.{Call}
use Rattle.trace_book.specs.declared.call.Call.TheVariants as call
use Rattle.trace_book.specs.declared.descriptor.Beginning.TheVariants as begins
use Rattle.trace_book.specs.declared.descriptor.Descriptor.{Descriptor}
use Rattle.trace_book.specs.declared.record.Record.{Record}
use Rattle.trace_book.specs.declared.record.Record.TheVariants as says
use Rattle.trace_book.specs.declared.reply.Reply.{Reply}
use Rattle.trace_book.specs.declared.reply.Reply.TheVariants as reply
use Rattle.locus_ids.specs.declared.refusal.Refusal.{Refusal}
use Rattle.locus_ids.specs.Sizes.{descriptors_max}
use Rattle.call_rules.specs.Descriptors.{beginning, begins_open, free_or, lowest_free, lowest_free_from}
use Rattle.role_steps.specs.Views.{Told, Shown}
use Rattle.the_run.specs.Kept.{Among}
use Rattle.the_run.specs.Worlds.{Line}
use Rattle.tree_model.specs.declared.accepted.Waiting.{Waiting}
use Rattle.tree_model.specs.Calls.{accepted_as, call_named, is_of, opening_of, waiting, waiting_of, version_of}
use Rattle.tree_model.specs.Epochs.{epoch_of}
use Rattle.tree_model.specs.Folds.{Trace}
use Rattle.lawful_trace.specs.CallRows.{CallRow, is_this}
use Rattle.lawful_trace.specs.Tables.{begins_now, begun, closed_by, descriptor, opened_by, held_again, kept_by, opened_as, reads_by}
use Rattle.tree_laws.specs.Following.{AnswersInTime, IsFollowed, MayTell, RepliesNaming}
use Rattle.tree_laws.specs.Printed.{entries, onto_entries}
use Rattle.tree_laws.proofs.Boots.{every_passes, found_every}
use Rattle.tree_laws.proofs.Descriptors.{IsPlain}
use Rattle.tree_laws.proofs.Later.{every_among, none_every}
use Rattle.tree_laws.proofs.Names.{same_call_eq, same_call_own}
use Rattle.tree_laws.proofs.Scripts.{begun_stays}
use Rattle.tree_laws.proofs.Waiting.{accepted, found_among}
use Rattle.store_laws.proofs.ScriptNaming.{Opens, named_opens}
use Rattle.std.specs.Option.{option_map}

parts : (a b c : Bool) → (a && b && c) ≡ true → (a ≡ true) × ((b ≡ true) × (c ≡ true))
parts true true true t = (refl, (refl, refl))
parts true true false t = absurd (true_false (sym t))
parts true false c t = absurd (true_false (sym t))
parts false b c t = absurd (true_false (sym t))

pub among_back : {A : Type 0} (p : A → Bool) (x : A) (xs : List A) → Among x (filter p xs) → Among x xs
among_back p x [] h = h
among_back {A} p x (y ∷ ys) h = at (λ (k : Among x (filter p ys)). among_back p x ys k) (p y) h
  where
    at : (Among x (filter p ys) → Among x ys) → (b : Bool) → Among x (cond b (y ∷ filter p ys) (filter p ys)) → (x ≡ y) ⊎ Among x ys
    at later true (inl same) = inl same
    at later true (inr k) = inr (later k)
    at later false k = inr (later k)

pub among_passes : {A : Type 0} (p : A → Bool) (x : A) (xs : List A) → Among x (filter p xs) → p x ≡ true
among_passes p x xs h = every_among (λ y. p y ≡ true) x (filter p xs) (every_passes (λ y. p y ≡ true) p (λ y e. e) xs) h

-- ---- a process waits for one call, but for mends ----

abbrev AllAlone : Trace → Type 0
AllAlone before = (w v : Waiting) → Among w (waiting before) → Among v (waiting before) → IsPlain w.words → IsPlain v.words → w.site ≡ v.site → w.process ≡ v.process → w.call ≡ v.call

row_idle : (c : Config) (before : Trace) (s process : ℕ) (d : CallId) (words : Call) → CallRow c before s process d words → IsPlain words → waiting_of s process (waiting before) ≡ None
row_idle c before s process d (call.Mend file) row plain = absurd plain
row_idle c before s process d words row plain = row.idle

idle_none : (s process : ℕ) (ws : List Waiting) (v : Waiting) → waiting_of s process ws ≡ None → Among v ws → s ≡ v.site → process ≡ v.process → ⊥
idle_none s process ws v idle among site of = true_false (sym (both (v.site == s) (v.process == process) (ap (λ (m : ℕ). m == s) (sym site) ∙ equal_self s) (ap (λ (m : ℕ). m == process) (sym of) ∙ equal_self process)) ∙ every_among (λ (x : Waiting). is_of s process x ≡ false) v ws (none_every (is_of s process) ws idle) among)
  where
    both : (a b : Bool) → a ≡ true → b ≡ true → a && b ≡ true
    both true true p q = refl
    both true false p q = q
    both false b p q = p

alone_record : (c : Config) (n : ℕ) (r : Record) (older : List Line) → MayTell c older (Shown r) → AllAlone (entries older) → AllAlone (record { line = n; what = r } ∷ entries older)
alone_record c n (says.Accept s process new words) older may k w v p q plain other site of = over p q
  where
    it : Waiting
    it = accepted_as (entries older) s process new words

    over : (w ≡ it) ⊎ Among w (waiting (entries older)) → (v ≡ it) ⊎ Among v (waiting (entries older)) → w.call ≡ v.call
    over (inl a) (inl b) = ap (λ (x : Waiting). x.call) (a ∙ sym b)
    over (inl a) (inr b) = absurd (idle_none s process (waiting (entries older)) v (row_idle c (entries older) s process new words may.row (subst (λ (x : Waiting). IsPlain x.words) a plain)) b (ap (λ (x : Waiting). x.site) (sym a) ∙ site) (ap (λ (x : Waiting). x.process) (sym a) ∙ of))
    over (inr a) (inl b) = absurd (idle_none s process (waiting (entries older)) w (row_idle c (entries older) s process new words may.row (subst (λ (x : Waiting). IsPlain x.words) b other)) a (ap (λ (x : Waiting). x.site) (sym b) ∙ sym site) (ap (λ (x : Waiting). x.process) (sym b) ∙ sym of))
    over (inr a) (inr b) = k w v a b plain other site of
alone_record c n (says.Answer s process d r) older may k w v p q plain other site of = k w v (among_back (λ (x : Waiting). not (same_call x.call d)) w (waiting (entries older)) p) (among_back (λ (x : Waiting). not (same_call x.call d)) v (waiting (entries older)) q) plain other site of
alone_record c n (says.Stopped s cause) older may k w v p q plain other site of = k w v (among_back (λ (x : Waiting). not (x.site == s)) w (waiting (entries older)) p) (among_back (λ (x : Waiting). not (x.site == s)) v (waiting (entries older)) q) plain other site of
alone_record c n r older may k w v p q plain other site of = k w v p q plain other site of

alone_told : (c : Config) (n : ℕ) (x : Told) (older : List Line) → MayTell c older x → AllAlone (entries older) → AllAlone (onto_entries n x (entries older))
alone_told c n (Shown r) older may k = alone_record c n r older may k
alone_told c n _ older may k = k

pub all_alone : (c : Config) (t : List Line) → IsFollowed c t → AllAlone (entries t)
all_alone c [] h = λ w v p. absurd p
all_alone c (x ∷ older) h = alone_told c x.number x.told older h.0 (all_alone c older h.1)

-- ---- tables with a free number ----

-- what is free in the first is free in the second
abbrev Freer : (ℕ → Option Descriptor) → (ℕ → Option Descriptor) → Type 0
Freer p q = (fd : ℕ) → p fd ≡ None → q fd ≡ None

more_free_from : (p q : ℕ → Option Descriptor) (n left fd : ℕ) → Freer p q → lowest_free_from p n left ≡ Some fd → (k : ℕ) × (lowest_free_from q n left ≡ Some k)
more_free_from p q n zero fd h e = absurd (none_some fd e)
more_free_from p q n (suc left) fd h e = over (q n) refl (p n) refl e (λ m. more_free_from p q (n + 1) left fd h m)
  where
    some_none : (x : Descriptor) → ◌≡◌ {A = Option Descriptor} (Some x) None → ⊥
    some_none x k = cc

    over : (o : Option Descriptor) → q n ≡ o → (a : Option Descriptor) → p n ≡ a → free_or n (lowest_free_from p (n + 1) left) a ≡ Some fd → (lowest_free_from p (n + 1) left ≡ Some fd → (k : ℕ) × (lowest_free_from q (n + 1) left ≡ Some k)) → (k : ℕ) × (lowest_free_from q n (suc left) ≡ Some k)
    over None qe a pe m later = (n, ap (free_or n (lowest_free_from q (n + 1) left)) qe)
    over (Some y) qe None pe m later = absurd (some_none y (sym qe ∙ h n pe))
    over (Some y) qe (Some z) pe m later = (let r : (k : ℕ) × (lowest_free_from q (n + 1) left ≡ Some k) = later m in (r.0, ap (free_or n (lowest_free_from q (n + 1) left)) qe ∙ r.1))

more_free : (p q : ℕ → Option Descriptor) (fd : ℕ) → Freer p q → lowest_free p ≡ Some fd → (k : ℕ) × (lowest_free q ≡ Some k)
more_free p q fd h e = more_free_from p q 0 descriptors_max fd h e

-- ---- opens that wait ----

abbrev HasNumber : Trace → Waiting → Type 0
HasNumber before w = (fd : ℕ) × (lowest_free (descriptor before w.site w.process) ≡ Some fd)

abbrev AllFree : Trace → Type 0
AllFree before = (w : Waiting) → Among w (waiting before) → Opens w.words → begun before w.call ≡ Some (begins.Walks w.call) → HasNumber before w

freer : (n : ℕ) (r : Record) (before : Trace) (w : Waiting) → Freer (descriptor before w.site w.process) (descriptor (record { line = n; what = r } ∷ before) w.site w.process) → HasNumber before w → HasNumber (record { line = n; what = r } ∷ before) w
freer n r before w h k = more_free (descriptor before w.site w.process) (descriptor (record { line = n; what = r } ∷ before) w.site w.process) k.0 h k.1

closed_none : (words : Call) (fd : ℕ) (old : Option Descriptor) → old ≡ None → closed_by words fd old ≡ None
closed_none (call.Close n) fd old e = over (n == fd)
  where
    over : (b : Bool) → cond b None old ≡ None
    over true = refl
    over false = e
closed_none _ fd old e = e

cell_none : (b : Bool) (new old : Option Descriptor) → new ≡ None → old ≡ None → cond b new old ≡ None
cell_none true new old p q = p
cell_none false new old p q = q

-- an open that walks has found a free number
open_found : (table : ℕ → Option Descriptor) (now : Option EpochId) (id : CallId) (words : Call) → Opens words → beginning table now id words ≡ (begins.Walks id) → (fd : ℕ) × (lowest_free table ≡ Some fd)
open_found table now id words o e = over (lowest_free table) refl (subst (λ (y : Call). beginning table now id y ≡ (begins.Walks id)) o.words_are e)
  where
    denied : (why : Refusal) → begins.Denied why ≡ (begins.Walks id) → ⊥
    denied why k = cc

    over : (f : Option ℕ) → lowest_free table ≡ f → begins_open now id f ≡ (begins.Walks id) → (fd : ℕ) × (lowest_free table ≡ Some fd)
    over None is k = absurd (denied _ k)
    over (Some fd) is k = (fd, is)

plain_open : (words : Call) → Opens words → IsPlain words
plain_open words o = subst IsPlain (sym o.words_are) tt

module _ (c : Config) (n : ℕ) (older : List Line) (h : IsFollowed c older) (k : AllFree (entries older)) where
  free_accept : (s process : ℕ) (new : CallId) (words : Call) → MayTell c older (Shown (says.Accept s process new words)) → AllFree (record { line = n; what = says.Accept s process new words } ∷ entries older)
  free_accept s process new words may w among opens starts = over among
    where
      r : Record
      r = says.Accept s process new words

      it : Waiting
      it = accepted_as (entries older) s process new words

      table : (v : Waiting) → Freer (descriptor (entries older) v.site v.process) (descriptor (record { line = n; what = r } ∷ entries older) v.site v.process)
      table v fd e = cell_none ((s == v.site) && (process == v.process)) (closed_by words fd (descriptor (entries older) v.site v.process fd)) (descriptor (entries older) v.site v.process fd) (closed_none words fd (descriptor (entries older) v.site v.process fd) e) e

      own : begun (record { line = n; what = r } ∷ entries older) new ≡ Some (begins.Walks new) → Opens words → HasNumber (entries older) it
      own b o = open_found (descriptor (entries older) s process) (epoch_of (entries older) s) new words o
          (some_same (begins_now (entries older) s process new words) (begins.Walks new) (sym (ap (λ (t : Bool). cond t (Some (begins_now (entries older) s process new words)) (begun (entries older) new)) (same_call_own new)) ∙ b))

      over : (w ≡ it) ⊎ Among w (waiting (entries older)) → HasNumber (record { line = n; what = r } ∷ entries older) w
      over (inl is) = subst (HasNumber (record { line = n; what = r } ∷ entries older)) (sym is) (freer n r (entries older) it (table it) (own (subst (λ (v : Waiting). begun (record { line = n; what = r } ∷ entries older) v.call ≡ Some (begins.Walks v.call)) is starts) (subst (λ (v : Waiting). Opens v.words) is opens)))
      over (inr old) = freer n r (entries older) w (table w) (k w old opens (sym (begun_stays c n (Shown r) older w.call h may (w, every_among (λ (v : Waiting). call_named (entries older) v.call ≡ Some v) w (waiting (entries older)) (accepted c older h).waits old)) ∙ starts))

  free_answer : (s process : ℕ) (d : CallId) (r : Reply) → MayTell c older (Shown (says.Answer s process d r)) → AllFree (record { line = n; what = says.Answer s process d r } ∷ entries older)
  free_answer s process d r may w among opens starts = freer n (says.Answer s process d r) (entries older) w table (k w old opens starts)
    where
      old : Among w (waiting (entries older))
      old = among_back (λ (x : Waiting). not (same_call x.call d)) w (waiting (entries older)) among

      other : w.call ≡ d → ⊥
      other is = true_false (sym (among_passes (λ (x : Waiting). not (same_call x.call d)) w (waiting (entries older)) among) ∙ ap not (subst (λ (z : CallId). same_call z d ≡ true) (sym is) (same_call_own d)))

      caller : Waiting
      caller = may.row.caller

      found : (call_named (entries older) caller.call ≡ Some caller) × (is_this s process d caller ≡ true)
      found = found_every (λ (x : Waiting). call_named (entries older) x.call ≡ Some x) (is_this s process d) (waiting (entries older)) caller may.row.waits (accepted c older h).waits

      is : (caller.site == s ≡ true) × ((caller.process == process ≡ true) × (same_call caller.call d ≡ true))
      is = parts (caller.site == s) (caller.process == process) (same_call caller.call d) found.1

      -- the open is the process's only call
      one : (m : ℕ) (x : Descriptor) → RepliesNaming c older d (reply.Opened m) → opening_of (entries older) d ≡ Some x → (s == w.site) ≡ true → (process == w.process) ≡ true → ⊥
      one m x replies opening p q = other (all_alone c older h w caller old (found_among (is_this s process d) (waiting (entries older)) caller may.row.waits) (plain_open w.words opens)
          (plain_open caller.words (named_opens c older d x m caller h replies opening (subst (λ (z : CallId). call_named (entries older) z ≡ Some caller) (same_call_eq caller.call d is.1.1) found.0)))
          (sym (equal caller.site s is.0 ∙ equal s w.site p)) (sym (equal caller.process process is.1.0 ∙ equal process w.process q)) ∙ same_call_eq caller.call d is.1.1)

      opened : (y : Reply) (fd : ℕ) → AnswersInTime c older d y → (s == w.site) ≡ true → (process == w.process) ≡ true → (cell : Option Descriptor) → cell ≡ None → opened_by y (entries older) d fd cell ≡ None
      opened (reply.Opened m) fd t p q cell e = cell_none (m == fd) (opened_as (entries older) d) cell (ap (option_map (λ (y : Descriptor). record y { steady = kept_by (call_named (entries older) d) (version_of (entries older) d) })) (none (opening_of (entries older) d) refl)) e
        where
          none : (o : Option Descriptor) → opening_of (entries older) d ≡ o → opening_of (entries older) d ≡ None
          none None z = z
          none (Some x) z = absurd (one m x t z p q)
      opened (reply.Data bytes) fd t p q cell e = over (reads_by (call_named (entries older) d) fd)
        where
          again : (o : Option Descriptor) → held_again o cell ≡ None
          again None = e
          again (Some x) = ap (option_map (λ (y : Descriptor). record x { steady = y.steady })) e

          over : (b : Bool) → cond b (held_again (opening_of (entries older) d) cell) cell ≡ None
          over true = again (opening_of (entries older) d)
          over false = e
      opened y fd t p q cell e = e

      table : Freer (descriptor (entries older) w.site w.process) (descriptor (record { line = n; what = says.Answer s process d r } ∷ entries older) w.site w.process)
      table fd e = at (s == w.site) (process == w.process) refl refl
        where
          at : (a b : Bool) → (s == w.site) ≡ a → (process == w.process) ≡ b → cond (a && b) (opened_by r (entries older) d fd (descriptor (entries older) w.site w.process fd)) (descriptor (entries older) w.site w.process fd) ≡ None
          at true true p q = opened r fd may.in_time p q (descriptor (entries older) w.site w.process fd) e
          at true false p q = e
          at false b p q = e

  free_record : (r : Record) → MayTell c older (Shown r) → AllFree (record { line = n; what = r } ∷ entries older)
  free_record (says.Accept s process new words) may w among opens starts = free_accept s process new words may w among opens starts
  free_record (says.Answer s process d r) may w among opens starts = free_answer s process d r may w among opens starts
  free_record (says.Stopped s cause) may w among opens starts = freer n (says.Stopped s cause) (entries older) w (λ fd e. cell_none (s == w.site) None (descriptor (entries older) w.site w.process fd) refl e)
      (k w (among_back (λ (x : Waiting). not (x.site == s)) w (waiting (entries older)) among) opens starts)
  free_record r may w among opens starts = k w among opens starts

  free_told : (x : Told) → MayTell c older x → AllFree (onto_entries n x (entries older))
  free_told (Shown r) may = free_record r may
  free_told _ may = k

-- an open that waits and walks has a free descriptor
pub opens_free : (c : Config) (t : List Line) → IsFollowed c t → (w : Waiting) → Among w (waiting (entries t)) → Opens w.words → begun (entries t) w.call ≡ Some (begins.Walks w.call) → (fd : ℕ) × (lowest_free (descriptor (entries t) w.site w.process) ≡ Some fd)
opens_free c [] h w among opens starts = absurd among
opens_free c (x ∷ older) h w among opens starts = free_told c x.number older h.1 (opens_free c older h.1) x.told h.0 w among opens starts
