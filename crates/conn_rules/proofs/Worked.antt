-- The worked exchange goes so: each reply and each state is computed.
use Rattle.std.proofs.Common.{refl, inl}
use Rattle.conn_rules.specs.History.{IsHistory}
use Rattle.conn_rules.specs.Worked.{worked_meaning, one_waits, both_came, one_sent, one_answered_here, one_passed, both_passed, client_gone, told_ended, worked_exchange}

pub goes_so : IsHistory worked_meaning worked_exchange told_ended
goes_so = (
  one_waits,
  inl (record { reply = refl; settles = record { acts = 1; after = refl; rest = refl } }),
  (
    both_came,
    inl (record { reply = refl; settles = record { acts = 0; after = refl; rest = refl } }),
    (
      both_came,
      inl (record { reply = refl; settles = record { acts = 0; after = refl; rest = refl } }),
      (
        one_sent,
        inl (record { reply = refl; settles = record { acts = 0; after = refl; rest = refl } }),
        (
          one_sent,
          inl (record { reply = refl; settles = record { acts = 0; after = refl; rest = refl } }),
          (
            one_answered_here,
            inl (record { reply = refl; settles = record { acts = 0; after = refl; rest = refl } }),
            (
              one_passed,
              inl (record { reply = refl; settles = record { acts = 0; after = refl; rest = refl } }),
              (
                both_passed,
                inl (record { reply = refl; settles = record { acts = 0; after = refl; rest = refl } }),
                (
                  client_gone,
                  inl (record { reply = refl; settles = record { acts = 0; after = refl; rest = refl } }),
                  (
                    told_ended,
                    inl (record { reply = refl; settles = record { acts = 0; after = refl; rest = refl } }),
                    refl,
                  ),
                ),
              ),
            ),
          ),
        ),
      ),
    ),
  ),
)
