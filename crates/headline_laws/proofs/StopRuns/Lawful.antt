-- The wrong samples are lawful by the rows. All of it computes.
use Rattle.std.specs.Prelude.{ℕ, refl}
use Rattle.std.proofs.Common.{inl}
use Rattle.schedule_lines.specs.Cluster.{config_of}
use Rattle.schedule_lines.specs.declared.line.Leave.{Leave}
use Rattle.lawful_trace.specs.Lawful.{EachComes}
use Rattle.lawful_trace.specs.Samples.{IsRight, first_of}
use Rattle.headline_laws.specs.StopRuns.Samples.{armed_lines, committed_twice, version_that_leave_took_away, disk_that_goes_on, stop_before_any_call, boot_that_was_over}

module _ (calls : ℕ) (left : Leave) where
  abbrev Comes : ℕ → Type 0
  Comes n = EachComes (config_of (armed_lines calls left)) (armed_lines calls left) (first_of n committed_twice)

  pub upto_3 : Comes 3
  upto_3 = (
    record { consistent = record { ascending = refl; row = record { up = refl; idle = refl; numbered = refl } }; placed = refl; asked = record { asked = refl } },
    (
      record { consistent = record { ascending = refl; row = record { gives = refl; served = refl; whole = refl } }; placed = refl; asked = tt },
      (record { consistent = record { ascending = refl; row = record { up = refl; outside = refl; new = refl; later = refl; same = inl refl; member = refl } }; placed = refl; asked = record { asked = refl } }, tt),
    ),
  )

  upto_4 : Comes 4
  upto_4 = (record { consistent = record { ascending = refl; row = record { opens = record { served = refl; step = record { accepted = _; named = refl; made_in = refl }; numbered = refl; asked = refl }; gives = refl; there = refl } }; placed = refl; asked = tt }, upto_3)

  upto_5 : Comes 5
  upto_5 = (record { consistent = record { ascending = refl; row = record { gives = refl; there = refl; step = record { call = _; owned = refl; step = record { accepted = _; named = refl; made_in = refl }; asked = refl } } }; placed = refl; asked = tt }, upto_4)

  upto_6 : Comes 6
  upto_6 = (record { consistent = record { ascending = refl; row = record { opens = record { served = refl; step = record { accepted = _; named = refl; made_in = refl }; numbered = refl; asked = refl }; gives = refl; there = refl } }; placed = refl; asked = tt }, upto_5)

  pub upto_7 : Comes 7
  upto_7 = (record { consistent = record { ascending = refl; row = record { epoch = _; inside = refl; instance = _; one = refl; at = refl; owes = refl; same = refl; above = refl; numbered = refl } }; placed = refl; asked = tt }, upto_6)

  upto_8 : Comes 8
  upto_8 = (record { consistent = record { ascending = refl; row = record { gives = refl; served = refl; step = record { call = _; owned = refl; step = record { accepted = _; named = refl; made_in = refl }; asked = refl } } }; placed = refl; asked = tt }, upto_7)

  upto_9 : Comes 9
  upto_9 = (record { consistent = record { ascending = refl; row = record { gives = refl; there = refl; step = record { call = _; owned = refl; step = record { accepted = _; named = refl; made_in = refl }; asked = refl } } }; placed = refl; asked = tt }, upto_8)

  pub upto_10 : Comes 10
  upto_10 = (record { consistent = record { ascending = refl; row = record { epoch = _; inside = refl; instance = _; one = refl; at = refl; owes = refl; same = refl; above = refl; numbered = refl } }; placed = refl; asked = tt }, upto_9)

pub took_away_is_lawful : IsRight version_that_leave_took_away
took_away_is_lawful = record { each = (record { consistent = record { ascending = refl; row = tt }; placed = refl; asked = record { working = refl; armed = refl; counted = refl } }, upto_7 _ _); told = refl; calls = refl }

pub goes_on_is_lawful : IsRight disk_that_goes_on
goes_on_is_lawful = record { each = upto_10 _ _; told = refl; calls = refl }

pub early_is_lawful : IsRight stop_before_any_call
early_is_lawful = record { each = (record { consistent = record { ascending = refl; row = tt }; placed = refl; asked = record { working = refl; armed = refl; counted = refl } }, upto_3 _ _); told = refl; calls = refl }

pub over_is_lawful : IsRight boot_that_was_over
over_is_lawful = record {
  each = (
    record { consistent = record { ascending = refl; row = tt }; placed = refl; asked = record { working = refl; armed = refl; counted = refl } },
    (record { consistent = record { ascending = refl; row = record { up = refl } }; placed = refl; asked = record { asked = refl } }, tt),
  );
  told = refl;
  calls = refl;
}
