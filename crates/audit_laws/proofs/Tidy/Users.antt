-- Who uses and closes an open instance: before the first record, and by each that may follow.
use Rattle.std.proofs.Common.{◌≡◌, ℕ, ◌+◌, true, List, [], ◌∷◌, map, refl, ◌∙◌, arith}
use Rattle.std.proofs.lemmas.List.Sums.{sum_by-cons}
use Rattle.locus_ids.specs.declared.config.Config.{Config}
use Rattle.locus_ids.specs.declared.ids.EpochId.{EpochId}
use Rattle.locus_ids.specs.declared.ids.Serial.{Serial}
use Rattle.commit_graph.specs.Vectors.{numbers_from}
use Rattle.trace_book.specs.declared.record.Record.{Record}
use Rattle.promises.specs.Past.{Past, Site, first_site, nothing_yet}
use Rattle.promises.specs.After.{after}
use Rattle.promises.specs.Rows.{may_follow}
use Rattle.audit_laws.specs.Tidy.Users.{numbers, described, UsersStand}
use Rattle.audit_laws.specs.Tidy.Tidy.{IsTidy}
use Rattle.audit_laws.proofs.Tidy.NamedNext.{named_next}
use Rattle.audit_laws.proofs.Tidy.TurnsNext.{turns_next}
use Rattle.audit_laws.proofs.Tidy.HandlesNext.{one_next, unhandled_next}

none_first : (c : Config) (e : EpochId) (i : Serial) (ns : List ℕ) → described e i (map (first_site c) ns) ≡ 0
none_first c e i [] = refl
none_first c e i (n ∷ ns) = sum_by-cons (λ (s : Site). numbers e i s.descriptors) (first_site c n) (map (first_site c) ns) ∙ zero_more (described e i (map (first_site c) ns)) (none_first c e i ns)
  where
    zero_more : (n : ℕ) → n ≡ 0 → 0 + n ≡ 0
    zero_more n h = omega (arith, h)

pub users_first : (c : Config) → UsersStand (nothing_yet c)
users_first c = record { named = tt; turns = tt; one = λ e i. omega (arith, none_first c e i (numbers_from 1 c.sites)); unhandled = tt }

pub users_next : (c : Config) (p : Past) (r : Record) → IsTidy c p → may_follow c p r ≡ true → UsersStand (after c r p)
users_next c p r tidy may = record { named = named_next c p r tidy may; turns = turns_next c p r tidy tidy.users.turns may; one = one_next c p r tidy tidy.users.one tidy.users.unhandled may; unhandled = unhandled_next c p r tidy tidy.users.unhandled may }
