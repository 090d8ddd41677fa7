-- How serial numbers stay owned: as rows are put, answered, opened, freed and closed.
use Rattle.std.proofs.Common.{◌≡◌, ◌≤◌, ℕ, ◌⊎◌, true, false, List, [], Option, None, sym, ◌∙◌, ap, subst, inl, inr, arith}
use Rattle.role_steps.proofs.of_plain_facts.Numbers.{at_most_of}
use Rattle.role_steps.proofs.of_plain_facts.Tests.{false_true}
use Rattle.locus_ids.specs.declared.ids.EpochId.{EpochId}
use Rattle.locus_ids.specs.declared.ids.FileId.{FileId}
use Rattle.role_steps.specs.of_page_cache.Cached.{CachedPages}
use Rattle.role_steps.specs.Views.{Users}
use Rattle.role_steps.specs.Requests.{waiting_key, with_waiting, without_waiting, instance_serial, with_user_instance, without_user_instance, fd_key, descriptor_key, with_descriptor, without_descriptor}
use Rattle.role_steps.specs.Using.{last_opened, no_serial}
use Rattle.role_steps.specs.declared.users.WaitingCall.{WaitingCall}
use Rattle.role_steps.specs.declared.users.DescriptorRow.{DescriptorRow}
use Rattle.role_steps.specs.declared.users.UserInstance.{UserInstance}
use Rattle.the_run.specs.Kept.{Among}
use Rattle.row_laws.specs.CallRows.Scripts.{EndsOpened}
use Rattle.row_laws.specs.CallRows.Serials.{Holds, serial_of, IsOpenIn, HasInstance, AsksOperation, HasOpened, Owned}
use Rattle.row_laws.proofs.CallRows.Rising.{key_case, put_rises, put_there, put_keeps, put_old, taken_rises, taken_keeps, taken_old}

zero_least : (n : ℕ) → 0 ≤ n
zero_least n = omega arith

-- ---- what doesn't matter ----

-- the calls are counted, and pages are used or kept
pub counts_owned : (K : EpochId → Type 0) (now : Option EpochId) (n : ℕ) (pages : CachedPages) (u : Users) → Owned K now u → Owned K now (record u { calls = n; cache = pages })
counts_owned K now n pages u h = record { waiting = h.waiting; descriptors = h.descriptors; held_low = h.held_low; one_call = h.one_call; low = h.low; no_call = h.no_call; one_descriptor = h.one_descriptor; there = h.there; asked_there = h.asked_there; epochs = h.epochs }

pub hopes_owned : (K : EpochId → Type 0) (now : Option EpochId) (files : List FileId) (u : Users) → Owned K now u → Owned K now (record u { hopeless = files })
hopes_owned K now files u h = record { waiting = h.waiting; descriptors = h.descriptors; held_low = h.held_low; one_call = h.one_call; low = h.low; no_call = h.no_call; one_descriptor = h.one_descriptor; there = h.there; asked_there = h.asked_there; epochs = h.epochs }

pub grow_owned : (K L : EpochId → Type 0) (now : Option EpochId) (u : Users) → ((e : EpochId) → K e → L e) → Owned K now u → Owned L now u
grow_owned K L now u grow h = record { waiting = h.waiting; descriptors = h.descriptors; held_low = h.held_low; one_call = h.one_call; low = h.low; no_call = h.no_call; one_descriptor = h.one_descriptor; there = h.there; asked_there = h.asked_there; epochs = λ d a. grow d.descriptor.epoch (h.epochs d a) }

-- ---- epochs ----

-- no descriptor is of the epoch that comes
pub moves_owned : (K : EpochId → Type 0) (now later : Option EpochId) (u : Users) → ((d : DescriptorRow) → Among d u.descriptors → IsOpenIn later d → ⊥) → Owned K now u → Owned K later u
moves_owned K now later u none h = record {
  waiting = h.waiting;
  descriptors = h.descriptors;
  held_low = h.held_low;
  one_call = h.one_call;
  low = h.low;
  no_call = λ d w a o. absurd (none d a o);
  one_descriptor = λ d e a b o. absurd (none d a o);
  there = λ d a o. absurd (none d a o);
  asked_there = h.asked_there;
  epochs = h.epochs;
}

pub leave_owned : (K : EpochId → Type 0) (now : Option EpochId) (u : Users) → Owned K now u → Owned K None (record u { waiting = []; instances = []; hopeless = [] })
leave_owned K now u h = record {
  waiting = tt;
  descriptors = h.descriptors;
  held_low = λ w s a. absurd a;
  one_call = λ w x s a. absurd a;
  low = h.low;
  no_call = λ d w a o. absurd (false_true o);
  one_descriptor = λ d e a b o. absurd (false_true o);
  there = λ d a o. absurd (false_true o);
  asked_there = λ w a. absurd a;
  epochs = h.epochs;
}

-- ---- a row is put, or taken away ----

pub put_owned : (K : EpochId → Type 0) (now : Option EpochId) (n : ℕ) (w : WaitingCall) (u : Users) → u.serials ≤ n → ((s : ℕ) → Holds s w → s ≤ n) →
    ((x : WaitingCall) (s : ℕ) → Among x u.waiting → Holds s x → Holds s w → waiting_key x ≡ waiting_key w) →
    ((d : DescriptorRow) → Among d u.descriptors → IsOpenIn now d → Holds (serial_of d) w → ⊥) → HasOpened u w → Owned K now u → Owned K now (with_waiting w (record u { serials = n }))
put_owned K now n w u le within alone apart has h = record {
  waiting = put_rises waiting_key w 0 u.waiting (zero_least (waiting_key w)) h.waiting;
  descriptors = h.descriptors;
  held_low = λ x s a k. by_low x s (old x a) k;
  one_call = λ x y s a b k l. by_call x y s (old x a) (old y b) k l;
  low = λ d a. at_most_of (serial_of d) u.serials n (h.low d a) le;
  no_call = λ d x a o b k. by_apart d x a o (old x b) k;
  one_descriptor = h.one_descriptor;
  there = h.there;
  asked_there = λ x a. by_opened x (old x a);
  epochs = h.epochs;
}
  where
    Old : WaitingCall → Type 0
    Old x = (x ≡ w) ⊎ (Among x u.waiting × (waiting_key x ≡ waiting_key w → ⊥))

    old : (x : WaitingCall) → Among x (with_waiting w (record u { serials = n })).waiting → Old x
    old x a = put_old waiting_key w 0 u.waiting h.waiting x a

    by_low : (x : WaitingCall) (s : ℕ) → Old x → Holds s x → s ≤ n
    by_low x s (inl e) k = within s (subst (Holds s) e k)
    by_low x s (inr o) k = at_most_of s u.serials n (h.held_low x s o.0 k) le

    by_call : (x y : WaitingCall) (s : ℕ) → Old x → Old y → Holds s x → Holds s y → waiting_key x ≡ waiting_key y
    by_call x y s (inl e) (inl f) k l = ap waiting_key (e ∙ sym f)
    by_call x y s (inl e) (inr o) k l = ap waiting_key e ∙ sym (alone y s o.0 l (subst (Holds s) e k))
    by_call x y s (inr o) (inl f) k l = alone x s o.0 k (subst (Holds s) f l) ∙ ap waiting_key (sym f)
    by_call x y s (inr o) (inr p) k l = h.one_call x y s o.0 p.0 k l

    by_apart : (d : DescriptorRow) (x : WaitingCall) → Among d u.descriptors → IsOpenIn now d → Old x → Holds (serial_of d) x → ⊥
    by_apart d x a o (inl e) k = apart d a o (subst (Holds (serial_of d)) e k)
    by_apart d x a o (inr p) k = h.no_call d x a o p.0 k

    by_opened : (x : WaitingCall) → Old x → HasOpened u x
    by_opened x (inl e) = subst (HasOpened u) (sym e) has
    by_opened x (inr o) = h.asked_there x o.0

pub answered_owned : (K : EpochId → Type 0) (now : Option EpochId) (w : WaitingCall) (u : Users) → Owned K now u → Owned K now (without_waiting w u)
answered_owned K now w u h = record {
  waiting = taken_rises waiting_key (waiting_key w) 0 u.waiting h.waiting;
  descriptors = h.descriptors;
  held_low = λ x s a. h.held_low x s (old x a);
  one_call = λ x y s a b. h.one_call x y s (old x a) (old y b);
  low = h.low;
  no_call = λ d x a o b. h.no_call d x a o (old x b);
  one_descriptor = h.one_descriptor;
  there = h.there;
  asked_there = λ x a. h.asked_there x (old x a);
  epochs = h.epochs;
}
  where
    old : (x : WaitingCall) → Among x (without_waiting w u).waiting → Among x u.waiting
    old x a = (taken_old waiting_key (waiting_key w) 0 u.waiting h.waiting x a).0

-- ---- instances ----

pub renewed_has : (i : UserInstance) (s : ℕ) (u : Users) → HasInstance s u → HasInstance s (with_user_instance i u)
renewed_has i s u k = key_case (HasInstance s (with_user_instance i u)) k.0.serial i.serial
    (λ e. (i, (put_there instance_serial i u.instances, sym e ∙ k.1.1)))
    (λ ne. (k.0, (put_keeps instance_serial i u.instances k.0 k.1.0 ne, k.1.1)))

pub renewed_owned : (K : EpochId → Type 0) (now : Option EpochId) (i : UserInstance) (u : Users) → Owned K now u → Owned K now (with_user_instance i u)
renewed_owned K now i u h = record { waiting = h.waiting; descriptors = h.descriptors; held_low = h.held_low; one_call = h.one_call; low = h.low; no_call = h.no_call; one_descriptor = h.one_descriptor; there = λ d a o. renewed_has i (serial_of d) u (h.there d a o); asked_there = λ w a p e. renewed_has i (last_opened no_serial w.answers).serial u (h.asked_there w a p e); epochs = h.epochs }

-- no descriptor of the epoch has the instance that is closed, and no call asks an operation on it
pub closed_owned : (K : EpochId → Type 0) (now : Option EpochId) (serial : ℕ) (u : Users) → ((d : DescriptorRow) → Among d u.descriptors → IsOpenIn now d → serial_of d ≡ serial → ⊥) →
    ((w : WaitingCall) → Among w u.waiting → AsksOperation w.asking → EndsOpened w.answers → (last_opened no_serial w.answers).serial ≡ serial → ⊥) → Owned K now u → Owned K now (without_user_instance serial u)
closed_owned K now serial u none alone h = record {
  waiting = h.waiting;
  descriptors = h.descriptors;
  held_low = h.held_low;
  one_call = h.one_call;
  low = h.low;
  no_call = h.no_call;
  one_descriptor = h.one_descriptor;
  there = λ d a o. left (serial_of d) (h.there d a o) (none d a o);
  asked_there = λ w a p e. left (last_opened no_serial w.answers).serial (h.asked_there w a p e) (alone w a p e);
  epochs = h.epochs;
}
  where
    left : (s : ℕ) → HasInstance s u → (s ≡ serial → ⊥) → HasInstance s (without_user_instance serial u)
    left s k other = (k.0, (taken_keeps instance_serial serial u.instances k.0 k.1.0 (λ e. other (sym k.1.1 ∙ e)), k.1.1))

-- ---- descriptors ----

pub opened_owned : (K : EpochId → Type 0) (now : Option EpochId) (d : DescriptorRow) (u : Users) → serial_of d ≤ u.serials → ((w : WaitingCall) → Among w u.waiting → Holds (serial_of d) w → ⊥) →
    ((e : DescriptorRow) → Among e u.descriptors → IsOpenIn now e → serial_of e ≡ serial_of d → ⊥) → HasInstance (serial_of d) u → K d.descriptor.epoch → Owned K now u → Owned K now (with_descriptor d u)
opened_owned K now d u le no_call alone has known h = record {
  waiting = h.waiting;
  descriptors = put_rises descriptor_key d 0 u.descriptors (zero_least (descriptor_key d)) h.descriptors;
  held_low = h.held_low;
  one_call = h.one_call;
  low = λ e a. by_low e (old e a);
  no_call = λ e w a o b k. by_call e w (old e a) o b k;
  one_descriptor = λ e g a b o p s. by_one e g (old e a) (old g b) o p s;
  there = λ e a o. by_there e (old e a) o;
  asked_there = h.asked_there;
  epochs = λ e a. by_epoch e (old e a);
}
  where
    Old : DescriptorRow → Type 0
    Old e = (e ≡ d) ⊎ (Among e u.descriptors × (descriptor_key e ≡ descriptor_key d → ⊥))

    old : (e : DescriptorRow) → Among e (with_descriptor d u).descriptors → Old e
    old e a = put_old descriptor_key d 0 u.descriptors h.descriptors e a

    by_low : (e : DescriptorRow) → Old e → serial_of e ≤ u.serials
    by_low e (inl p) = subst (λ (x : DescriptorRow). serial_of x ≤ u.serials) (sym p) le
    by_low e (inr o) = h.low e o.0

    by_call : (e : DescriptorRow) (w : WaitingCall) → Old e → IsOpenIn now e → Among w u.waiting → Holds (serial_of e) w → ⊥
    by_call e w (inl p) o b k = no_call w b (subst (λ (x : DescriptorRow). Holds (serial_of x) w) p k)
    by_call e w (inr q) o b k = h.no_call e w q.0 o b k

    by_one : (e g : DescriptorRow) → Old e → Old g → IsOpenIn now e → IsOpenIn now g → serial_of e ≡ serial_of g → descriptor_key e ≡ descriptor_key g
    by_one e g (inl p) (inl q) o r s = ap descriptor_key (p ∙ sym q)
    by_one e g (inl p) (inr q) o r s = absurd (alone g q.0 r (sym s ∙ ap serial_of p))
    by_one e g (inr p) (inl q) o r s = absurd (alone e p.0 o (s ∙ ap serial_of q))
    by_one e g (inr p) (inr q) o r s = h.one_descriptor e g p.0 q.0 o r s

    by_there : (e : DescriptorRow) → Old e → IsOpenIn now e → HasInstance (serial_of e) u
    by_there e (inl p) o = subst (λ (x : DescriptorRow). HasInstance (serial_of x) u) (sym p) has
    by_there e (inr q) o = h.there e q.0 o

    by_epoch : (e : DescriptorRow) → Old e → K e.descriptor.epoch
    by_epoch e (inl p) = subst (λ (x : DescriptorRow). K x.descriptor.epoch) (sym p) known
    by_epoch e (inr q) = h.epochs e q.0

pub freed_old : (K : EpochId → Type 0) (now : Option EpochId) (process fd : ℕ) (u : Users) → Owned K now u → (d : DescriptorRow) → Among d (without_descriptor process fd u).descriptors → Among d u.descriptors × (descriptor_key d ≡ fd_key process fd → ⊥)
freed_old K now process fd u h d a = taken_old descriptor_key (fd_key process fd) 0 u.descriptors h.descriptors d a

pub freed_owned : (K : EpochId → Type 0) (now : Option EpochId) (process fd : ℕ) (u : Users) → Owned K now u → Owned K now (without_descriptor process fd u)
freed_owned K now process fd u h = record {
  waiting = h.waiting;
  descriptors = taken_rises descriptor_key (fd_key process fd) 0 u.descriptors h.descriptors;
  held_low = h.held_low;
  one_call = h.one_call;
  low = λ d a. h.low d (old d a);
  no_call = λ d w a. h.no_call d w (old d a);
  one_descriptor = λ d e a b. h.one_descriptor d e (old d a) (old e b);
  there = λ d a. h.there d (old d a);
  asked_there = h.asked_there;
  epochs = λ d a. h.epochs d (old d a);
}
  where
    old : (d : DescriptorRow) → Among d (without_descriptor process fd u).descriptors → Among d u.descriptors
    old d a = (freed_old K now process fd u h d a).0
