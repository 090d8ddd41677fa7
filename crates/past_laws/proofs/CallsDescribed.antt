-- What descriptors stand for with each record that may come, and that who isn't named by one isn't used.
use Rattle.std.proofs.Common.{◌≡◌, ℕ, ◌==◌, Bool, true, false, not, cond, ◌&&◌, ◌||◌, [], ◌∷◌, Option, Some, None, refl, sym, ◌∙◌, ap, subst, arith, ◌⊎◌, inl, inr}
use Rattle.std.specs.Option.{option_map}
use Rattle.locus_ids.specs.declared.config.Config.{Config}
use Rattle.locus_ids.specs.declared.ids.CallId.{CallId}
use Rattle.locus_ids.specs.declared.ids.EpochId.{EpochId}
use Rattle.locus_ids.specs.declared.ids.Serial.{Serial}
use Rattle.trace_book.specs.Same.{same_call, same_epoch, same_serial}
use Rattle.trace_book.specs.declared.call.Call.{Call}
use Rattle.trace_book.specs.declared.call.Call.TheVariants as call
use Rattle.trace_book.specs.declared.descriptor.Descriptor.{Descriptor}
use Rattle.trace_book.specs.declared.descriptor.OneVersion.{OneVersion}
use Rattle.trace_book.specs.declared.record.Record.{Record}
use Rattle.trace_book.specs.declared.record.Record.TheVariants as says
use Rattle.trace_book.specs.declared.reply.Reply.{Reply}
use Rattle.trace_book.specs.declared.reply.Reply.TheVariants as reply
use Rattle.tree_model.specs.declared.accepted.Waiting.{Waiting}
use Rattle.tree_model.specs.Calls.{call_named, granted_to, opening_of, version_of}
use Rattle.tree_model.specs.Epochs.{epoch_of}
use Rattle.tree_model.specs.Folds.{Trace}
use Rattle.promises.specs.of_lawful_trace.Lawful.{MayCome}
use Rattle.promises.specs.of_lawful_trace.Tables.{begins_now, closed_by, held_again, is_opening, is_read_of, kept_by, opened_as, opened_by, descriptor, is_close, reads_by, uses_by, uses_of, close_of, has_named}
use Rattle.past_laws.specs.Standing.{IsUntouched, StandsFor, UsersStand}
use Rattle.past_laws.proofs.Names.{both_parts, false_true, none_some, some_same, number_eq, number_own, call_eq, call_own, epoch_eq, epoch_own, serial_eq, serial_own}
use Rattle.past_laws.proofs.CallsGranted.{With, granted_stays}
use Rattle.past_laws.proofs.CallsUsing.{ClosesNumber, FromDescriptor, uses_from, uses_is}
use Rattle.past_laws.proofs.CallsUsers.{named_more, unnamed_before, answers, low_step, low_named_step, low_uses_step, low_close_step, waits_step, alone_step}

-- ---- what was granted last ----

opening_step : (c : Config) (n : ℕ) (r : Record) (before : Trace) → MayCome c before r → UsersStand before → (d : CallId) (x : Descriptor) → opening_of (With n r before) d ≡ Some x → granted_to (With n r before) x.epoch x.inst ≡ Some d
opening_step c n (says.Grant at call request inst m f stamp ss) before may u d x h = over (same_call call d) refl h
  where
    it : Descriptor
    it = record { mode = m; epoch = at; inst = inst; steady = None }

    own : cond (same_epoch at at && same_serial inst inst) (Some call) (granted_to before at inst) ≡ Some call
    own = ap (λ (b : Bool). cond (b && same_serial inst inst) (Some call) (granted_to before at inst)) (epoch_own at) ∙ ap (λ (b : Bool). cond b (Some call) (granted_to before at inst)) (serial_own inst)

    over : (b : Bool) → same_call call d ≡ b → cond b (Some it) (opening_of before d) ≡ Some x → granted_to (With n (says.Grant at call request inst m f stamp ss) before) x.epoch x.inst ≡ Some d
    over true p q = subst (λ (y : Descriptor). granted_to (With n (says.Grant at call request inst m f stamp ss) before) y.epoch y.inst ≡ Some d) (some_same it x q) (own ∙ ap Some (call_eq call d p))
    over false p q = granted_stays c n (says.Grant at call request inst m f stamp ss) before x.epoch x.inst d may (u.opening d x q)
opening_step c n _ before may u d x h = u.opening d x h

-- ---- where a descriptor comes from ----

-- by this number a reply to the call makes a descriptor stand for what was granted to the call
abbrev pub Numbers : Trace → CallId → Reply → ℕ → Type 0
Numbers before d (reply.Opened n) fd = n ≡ fd
Numbers before d (reply.Data bytes) fd = reads_by (call_named before d) fd ≡ true
Numbers before d _ fd = ⊥

-- the record is the reply that makes it: an open's, or a read's that has opened a version again
pub record IsOpenedBy (before : Trace) (r : Record) (s q fd : ℕ) (x : Descriptor) : Type 0 where
  pub call : CallId
  pub reply : Reply
  pub opens : r ≡ says.Answer s q call reply
  pub numbers : Numbers before call reply fd
  pub opening : Descriptor
  pub opened : opening_of before call ≡ Some opening
  pub epoch_is : opening.epoch ≡ x.epoch
  pub inst_is : opening.inst ≡ x.inst

closed_left : (words : Call) (fd : ℕ) (old : Option Descriptor) (x : Descriptor) → closed_by words fd old ≡ Some x → old ≡ Some x
closed_left (call.Close n) fd old x h = over (n == fd) h
  where
    over : (b : Bool) → cond b None old ≡ Some x → old ≡ Some x
    over true k = none_some x k
    over false k = k
closed_left _ fd old x h = h

-- what was granted to the call, with another version that is kept
steady_left : (before : Trace) (d : CallId) (x : Descriptor) (P : Type 0) (kept : Option OneVersion) → ((o : Descriptor) → opening_of before d ≡ Some o → o.epoch ≡ x.epoch → o.inst ≡ x.inst → P) → (o : Option Descriptor) → opening_of before d ≡ o → option_map (λ (y : Descriptor). record y { steady = kept }) o ≡ Some x → P
steady_left before d x P kept new None e h = none_some x h
steady_left before d x P kept new (Some o) e h = (let same : ◌≡◌ {A = Descriptor} (record o { steady = kept }) x = some_same (record o { steady = kept }) x h in new o e (ap (λ (y : Descriptor). y.epoch) same) (ap (λ (y : Descriptor). y.inst) same))

again_left : (before : Trace) (d : CallId) (x : Descriptor) (P : Type 0) → ((o : Descriptor) → opening_of before d ≡ Some o → o.epoch ≡ x.epoch → o.inst ≡ x.inst → P) → (old : Option Descriptor) → (old ≡ Some x → P) → (o : Option Descriptor) → opening_of before d ≡ o → held_again o old ≡ Some x → P
again_left before d x P new old was None e h = was h
again_left before d x P new None was (Some o) e h = none_some x h
again_left before d x P new (Some y) was (Some o) e h = (let same : ◌≡◌ {A = Descriptor} (record o { steady = y.steady }) x = some_same (record o { steady = y.steady }) x h in new o e (ap (λ (z : Descriptor). z.epoch) same) (ap (λ (z : Descriptor). z.inst) same))

opened_left : (before : Trace) (d : CallId) (r : Reply) (fd : ℕ) (old : Option Descriptor) (x : Descriptor) (P : Type 0) → (Numbers before d r fd → (o : Descriptor) → opening_of before d ≡ Some o → o.epoch ≡ x.epoch → o.inst ≡ x.inst → P) → (old ≡ Some x → P) → opened_by r before d fd old ≡ Some x → P
opened_left before d (reply.Opened n) fd old x P new was h = over (n == fd) refl h
  where
    over : (b : Bool) → (n == fd) ≡ b → cond b (opened_as before d) old ≡ Some x → P
    over true e k = steady_left before d x P (kept_by (call_named before d) (version_of before d)) (new (number_eq n fd e)) (opening_of before d) refl k
    over false e k = was k
opened_left before d (reply.Data bytes) fd old x P new was h = over (reads_by (call_named before d) fd) refl h
  where
    over : (b : Bool) → reads_by (call_named before d) fd ≡ b → cond b (held_again (opening_of before d) old) old ≡ Some x → P
    over true e k = again_left before d x P (new e) old was (opening_of before d) refl k
    over false e k = was k
opened_left before d _ fd old x P new was h = was h

same_answer : (s t q r : ℕ) (d : CallId) (a b : Reply) → s ≡ t → q ≡ r → a ≡ b → says.Answer s q d a ≡ says.Answer t r d b
same_answer s t q r d a b e f g = λ i. says.Answer (e i) (f i) d (g i)

pub described : (n : ℕ) (r : Record) (before : Trace) (site user fd : ℕ) (x : Descriptor) → descriptor (With n r before) site user fd ≡ Some x → (descriptor before site user fd ≡ Some x) ⊎ IsOpenedBy before r site user fd x
described n (says.Accept s process new words) before site user fd x h = inl (over ((s == site) && (process == user)) h)
  where
    over : (b : Bool) → cond b (closed_by words fd (descriptor before site user fd)) (descriptor before site user fd) ≡ Some x → descriptor before site user fd ≡ Some x
    over true o = closed_left words fd (descriptor before site user fd) x o
    over false o = o
described n (says.Stopped s cause) before site user fd x h = inl (over (s == site) h)
  where
    over : (b : Bool) → cond b None (descriptor before site user fd) ≡ Some x → descriptor before site user fd ≡ Some x
    over true o = none_some x o
    over false o = o
described n (says.Answer s process d r) before site user fd x h = over (s == site) (process == user) refl refl h
  where
    over : (a b : Bool) → (s == site) ≡ a → (process == user) ≡ b → cond (a && b) (opened_by r before d fd (descriptor before site user fd)) (descriptor before site user fd) ≡ Some x → (descriptor before site user fd ≡ Some x) ⊎ IsOpenedBy before (says.Answer s process d r) site user fd x
    over true true p q o = opened_left before d r fd (descriptor before site user fd) x ((descriptor before site user fd ≡ Some x) ⊎ IsOpenedBy before (says.Answer s process d r) site user fd x)
        (λ g y k e f. inr (record { call = d; reply = r; opens = same_answer s site process user d r r (number_eq s site p) (number_eq process user q) refl; numbers = g; opening = y; opened = k; epoch_is = e; inst_is = f })) (λ k. inl k) o
    over true false p q o = inl o
    over false b p q o = inl o
described n _ before site user fd x h = inl h

-- an accepted close leaves no descriptor of its number
closed_none : (n s process : ℕ) (new : CallId) (words : Call) (before : Trace) (site user fd m : ℕ) (x : Descriptor) → is_close words ≡ true → ClosesNumber words m → s ≡ site → process ≡ user → m ≡ fd
    → descriptor (With n (says.Accept s process new words) before) site user fd ≡ Some x → ⊥
closed_none n s process new (call.Close k) before site user fd m x close number e f g h = over (s == site) (process == user) (k == fd) (subst (λ (y : ℕ). (s == y) ≡ true) e (number_own s)) (subst (λ (y : ℕ). (process == y) ≡ true) f (number_own process)) (subst (λ (y : ℕ). (k == y) ≡ true) (number ∙ g) (number_own k)) h
  where
    over : (a b d : Bool) → a ≡ true → b ≡ true → d ≡ true → cond (a && b) (cond d None (descriptor before site user fd)) (descriptor before site user fd) ≡ Some x → ⊥
    over true true true p q t o = none_some x o
    over true true false p q t o = false_true t
    over true false d p q t o = false_true q
    over false b d p q t o = false_true p
closed_none n s process new _ before site user fd m x close number e f g h = false_true close

-- ---- what it stands for ----

-- the call is answered by a descriptor, or by what one read that it holds again
named_it : (n s q fd : ℕ) (d : CallId) (r : Reply) (before : Trace) → Numbers before d r fd → has_named (With n (says.Answer s q d r) before) d ≡ true
named_it n s q fd d (reply.Opened m) before h = ap (λ (b : Bool). b && true || has_named before d) (call_own d)
named_it n s q fd d (reply.Data bytes) before h = ap (λ (b : Bool). b && true || has_named before d) (call_own d)
named_it n s q fd d _ before h = absurd h

-- what it stands for was granted to the call
opened_granted : (before : Trace) (r : Record) → UsersStand before → (s q fd : ℕ) (x : Descriptor) → (o : IsOpenedBy before r s q fd x) → granted_to before x.epoch x.inst ≡ Some o.call
opened_granted before r u s q fd x o = ap (λ (z : EpochId). granted_to before z x.inst) (sym o.epoch_is) ∙ (ap (granted_to before o.opening.epoch) (sym o.inst_is) ∙ u.opening o.call o.opening o.opened)

-- a new descriptor stands for what was granted to the call last, which none has named
new_stands : (c : Config) (n : ℕ) (r : Record) (before : Trace) → MayCome c before r → UsersStand before → (s q fd : ℕ) (x : Descriptor) → IsOpenedBy before r s q fd x → StandsFor (With n r before) x
new_stands c n r before may u s q fd x o = subst (λ (y : Record). StandsFor (With n y before) x) (sym o.opens) (at (subst (MayCome c before) o.opens may))
  where
    at : MayCome c before (says.Answer s q o.call o.reply) → StandsFor (With n (says.Answer s q o.call o.reply) before) x
    at k = (let granted : granted_to before x.epoch x.inst ≡ Some o.call = opened_granted before r u s q fd x o in
        let a = answers c before s q o.call o.reply k u in record {
          call = o.call;
          granted = granted;
          named = named_it n s q fd o.call o.reply before o.numbers;
          unclosed = (u.untouched x.epoch x.inst (λ d e. ap (has_named before) (some_same d o.call (sym e ∙ granted)) ∙ a.unnamed)).unclosed;
        })

old_stands : (c : Config) (n : ℕ) (r : Record) (before : Trace) → MayCome c before r → (x : Descriptor) → (k : StandsFor before x) → close_of (With n r before) x.epoch x.inst ≡ None → StandsFor (With n r before) x
old_stands c n r before may x k h = record { call = k.call; granted = granted_stays c n r before x.epoch x.inst k.call may k.granted; named = named_more n r before k.call k.named; unclosed = h }

-- what is still described wasn't closed by the record
unclosed_step : (c : Config) (n : ℕ) (r : Record) (before : Trace) → UsersStand before → (s q fd : ℕ) (x : Descriptor) → descriptor (With n r before) s q fd ≡ Some x → descriptor before s q fd ≡ Some x → close_of before x.epoch x.inst ≡ None → close_of (With n r before) x.epoch x.inst ≡ None
unclosed_step c n (says.Accept s process new words) before u site user fd x h was k = over (is_close words) (uses_by (begins_now before s process new words) x.epoch x.inst) refl refl
  where
    clash : is_close words ≡ true → FromDescriptor (descriptor before s process) (epoch_of before s) words x.epoch x.inst → ⊥
    clash close f = (let one = u.single s process f.fd site user fd f.stands x f.found was f.epoch_is f.serial_is in
        closed_none n s process new words before site user fd f.fd x close f.closes one.0 one.1 one.2 h)

    over : (a b : Bool) → is_close words ≡ a → uses_by (begins_now before s process new words) x.epoch x.inst ≡ b → cond (a && b) (Some new) (close_of before x.epoch x.inst) ≡ None
    over true true p q = absurd (clash p (uses_from (descriptor before s process) (epoch_of before s) new words x.epoch x.inst (uses_is (begins_now before s process new words) x.epoch x.inst q)))
    over true false p q = k
    over false b p q = k
unclosed_step c n _ before u site user fd x h was k = k

stands_step : (c : Config) (n : ℕ) (r : Record) (before : Trace) → MayCome c before r → UsersStand before → (site process fd : ℕ) (x : Descriptor) → descriptor (With n r before) site process fd ≡ Some x → StandsFor (With n r before) x
stands_step c n r before may u site process fd x h = over (described n r before site process fd x h)
  where
    over : (descriptor before site process fd ≡ Some x) ⊎ IsOpenedBy before r site process fd x → StandsFor (With n r before) x
    over (inl was) = (let k = u.stands site process fd x was in old_stands c n r before may x k (unclosed_step c n r before u site process fd x h was k.unclosed))
    over (inr new) = new_stands c n r before may u site process fd x new

-- a call that is answered now was answered by no descriptor before
new_old : {A : Type 0} (c : Config) (r : Record) (before : Trace) → MayCome c before r → UsersStand before → (s q n t o m : ℕ) (x y : Descriptor) → IsOpenedBy before r s q n x → descriptor before t o m ≡ Some y → x.epoch ≡ y.epoch → x.inst ≡ y.inst → A
new_old c r before may u s q n t o m x y new was e f = (let k = u.stands t o m y was in
    let granted : granted_to before x.epoch x.inst ≡ Some new.call = opened_granted before r u s q n x new in
    let a = answers c before s q new.call new.reply (subst (MayCome c before) new.opens may) u in
    false_true (sym a.unnamed ∙ (ap (has_named before) (some_same new.call k.call (sym granted ∙ (ap (λ (z : EpochId). granted_to before z x.inst) e ∙ (ap (granted_to before y.epoch) f ∙ k.granted)))) ∙ k.named)))

pub answer_call : (s t q r : ℕ) (d g : CallId) (a b : Reply) → says.Answer s q d a ≡ says.Answer t r g b → d ≡ g
answer_call s t q r d g a b e = cc

pub answer_reply : (s t q r : ℕ) (d g : CallId) (a b : Reply) → says.Answer s q d a ≡ says.Answer t r g b → a ≡ b
answer_reply s t q r d g a b e = cc

answer_site : (s t q r : ℕ) (d g : CallId) (a b : Reply) → says.Answer s q d a ≡ says.Answer t r g b → s ≡ t
answer_site s t q r d g a b e = cc

answer_process : (s t q r : ℕ) (d g : CallId) (a b : Reply) → says.Answer s q d a ≡ says.Answer t r g b → q ≡ r
answer_process s t q r d g a b e = cc

-- a reply has one number
one_number : (before : Trace) (d : CallId) (a : Reply) (n m : ℕ) → Numbers before d a n → Numbers before d a m → n ≡ m
one_number before d (reply.Opened k) n m h g = sym h ∙ g
one_number before d (reply.Data bytes) n m h g = by_call (call_named before d) h g
  where
    by_words : (w : Call) → is_read_of w n ≡ true → is_read_of w m ≡ true → n ≡ m
    by_words (call.Read k at len) h g = sym (number_eq k n h) ∙ number_eq k m g
    by_words _ h g = false_true h

    by_call : (o : Option Waiting) → reads_by o n ≡ true → reads_by o m ≡ true → n ≡ m
    by_call None h g = false_true h
    by_call (Some w) h g = by_words w.words h g
one_number before d _ n m h g = absurd h

single_step : (c : Config) (number : ℕ) (rec : Record) (before : Trace) → MayCome c before rec → UsersStand before → (s q n t r m : ℕ) (x y : Descriptor) → descriptor (With number rec before) s q n ≡ Some x → descriptor (With number rec before) t r m ≡ Some y → x.epoch ≡ y.epoch → x.inst ≡ y.inst
    → (s ≡ t) × (q ≡ r) × (n ≡ m)
single_step c number rec before may u s q n t r m x y h k e f = over (described number rec before s q n x h) (described number rec before t r m y k)
  where
    over : (descriptor before s q n ≡ Some x) ⊎ IsOpenedBy before rec s q n x → (descriptor before t r m ≡ Some y) ⊎ IsOpenedBy before rec t r m y → (s ≡ t) × (q ≡ r) × (n ≡ m)
    over (inl a) (inl b) = u.single s q n t r m x y a b e f
    over (inl a) (inr b) = new_old c rec before may u t r m s q n y x b a (sym e) (sym f)
    over (inr a) (inl b) = new_old c rec before may u s q n t r m x y a b e f
    over (inr a) (inr b) = (let same : says.Answer s q a.call a.reply ≡ says.Answer t r b.call b.reply = sym a.opens ∙ b.opens in (
      answer_site s t q r a.call b.call a.reply b.reply same,
      answer_process s t q r a.call b.call a.reply b.reply same,
      one_number before a.call a.reply n m a.numbers
          (subst (λ (z : Reply). Numbers before a.call z m) (sym (answer_reply s t q r a.call b.call a.reply b.reply same))
          (subst (λ (z : CallId). Numbers before z b.reply m) (sym (answer_call s t q r a.call b.call a.reply b.reply same)) b.numbers)),
    ))

-- ---- who isn't named isn't used ----

-- what was granted last is this instance
pub record IsOpening (o : Option Descriptor) (e : EpochId) (i : Serial) : Type 0 where
  pub opening : Descriptor
  pub found : o ≡ Some opening
  pub epoch_is : opening.epoch ≡ e
  pub inst_is : opening.inst ≡ i

pub opening_is : (o : Option Descriptor) (e : EpochId) (i : Serial) → is_opening o e i ≡ true → IsOpening o e i
opening_is None e i h = false_true h
opening_is (Some x) e i h = (let both = both_parts (same_epoch x.epoch e) (same_serial x.inst i) h in record { opening = x; found = refl; epoch_is = epoch_eq x.epoch e both.0; inst_is = serial_eq x.inst i both.1 })

untouched_step : (c : Config) (n : ℕ) (r : Record) (before : Trace) → MayCome c before r → UsersStand before → (e : EpochId) (i : Serial) → ((d : CallId) → granted_to (With n r before) e i ≡ Some d → has_named (With n r before) d ≡ false) → IsUntouched (With n r before) e i
untouched_step c n r before may u e i h = more r may h old
  where
    unnamed : (d : CallId) → granted_to before e i ≡ Some d → has_named before d ≡ false
    unnamed d g = unnamed_before n r before d (h d (granted_stays c n r before e i d may g))

    old : IsUntouched before e i
    old = u.untouched e i unnamed

    clash : {A : Type 0} (s process : ℕ) (id : CallId) (words : Call) → uses_by (begins_now before s process id words) e i ≡ true → A
    clash s process id words q = (let f = uses_from (descriptor before s process) (epoch_of before s) id words e i (uses_is (begins_now before s process id words) e i q) in
        let k = u.stands s process f.fd f.stands f.found in
        false_true (sym (unnamed k.call (ap (λ (z : EpochId). granted_to before z i) (sym f.epoch_is) ∙ (ap (granted_to before f.stands.epoch) (sym f.serial_is) ∙ k.granted))) ∙ k.named))

    more : (y : Record) → MayCome c before y → ((d : CallId) → granted_to (With n y before) e i ≡ Some d → has_named (With n y before) d ≡ false) → IsUntouched before e i → IsUntouched (With n y before) e i
    more (says.Accept s process new words) may h k = record { unused = unused (not (is_close words)) (uses_by (begins_now before s process new words) e i) refl; unclosed = unclosed (is_close words) (uses_by (begins_now before s process new words) e i) refl }
      where
        unused : (a b : Bool) → uses_by (begins_now before s process new words) e i ≡ b → cond (a && b) (new ∷ uses_of before e i) (uses_of before e i) ≡ []
        unused true true q = clash s process new words q
        unused true false q = k.unused
        unused false b q = k.unused

        unclosed : (a b : Bool) → uses_by (begins_now before s process new words) e i ≡ b → cond (a && b) (Some new) (close_of before e i) ≡ None
        unclosed true true q = clash s process new words q
        unclosed true false q = k.unclosed
        unclosed false b q = k.unclosed
    more (says.Answer s process d (reply.Data bytes)) may h k = record { unused = unused (is_opening (opening_of before d) e i) refl; unclosed = k.unclosed }
      where
        named : has_named (With n (says.Answer s process d (reply.Data bytes)) before) d ≡ true
        named = ap (λ (b : Bool). b && true || has_named before d) (call_own d)

        clashes : {A : Type 0} → is_opening (opening_of before d) e i ≡ true → A
        clashes q = (let o = opening_is (opening_of before d) e i q in
            false_true (sym (h d (ap (λ (z : EpochId). granted_to before z i) (sym o.epoch_is) ∙ (ap (granted_to before o.opening.epoch) (sym o.inst_is) ∙ u.opening d o.opening o.found))) ∙ named))

        unused : (b : Bool) → is_opening (opening_of before d) e i ≡ b → cond b (d ∷ uses_of before e i) (uses_of before e i) ≡ []
        unused true q = clashes q
        unused false q = k.unused
    more _ may h k = record { unused = k.unused; unclosed = k.unclosed }

-- ---- all of it ----

pub users_step : (c : Config) (n : ℕ) (r : Record) (before : Trace) → MayCome c before r → UsersStand before → UsersStand (With n r before)
users_step c n r before may u = record {
  low = low_step c n r before may u;
  low_named = low_named_step c n r before may u;
  low_uses = low_uses_step c n r before may u;
  low_close = low_close_step c n r before may u;
  waits = waits_step c n r before may u;
  alone = alone_step c n r before may u;
  opening = opening_step c n r before may u;
  stands = stands_step c n r before may u;
  single = single_step c n r before may u;
  untouched = untouched_step c n r before may u;
}

pub users_none : UsersStand []
users_none = record {
  low = λ d w h. none_some w h;
  low_named = λ d h. false_true h;
  low_uses = λ e i. tt;
  low_close = λ e i d h. none_some d h;
  waits = tt;
  alone = λ s q. omega arith;
  opening = λ d x h. none_some x h;
  stands = λ s q n x h. none_some x h;
  single = λ s q n t r m x y h. none_some x h;
  untouched = λ e i h. record { unused = refl; unclosed = refl };
}
