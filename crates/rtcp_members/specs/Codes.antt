-- Codes, by which a proof tells tables apart.
use Rattle.std.specs.Prelude.{ℕ, Bool, Option, refl}
use Rattle.std.specs.Coded.{Coded, code_by, coded×, coded_ℕ, coded_bool, coded_option}
use Rattle.std.specs.FinMap as map
use Rattle.rtcp_source.specs.LastBlocks.{LastBlockValue}
use Rattle.rtcp_source.specs.Summary.{RunValue, SourceValue}
use Rattle.rtcp_source.specs.Fields.{LastReportValue}
use Rattle.rtcp_members.specs.Entries.{EntryValue}
use Rattle.rtcp_members.specs.Tables.{EntryMap, TableValue}

abbrev pub run_code : Coded RunValue
run_code =
    code_by (ℕ × (ℕ × (ℕ × (ℕ × (ℕ × (ℕ × (ℕ × (ℕ × ℕ))))))))
    (coded× coded_ℕ (coded× coded_ℕ (coded× coded_ℕ (coded× coded_ℕ
    (coded× coded_ℕ (coded× coded_ℕ (coded× coded_ℕ (coded× coded_ℕ coded_ℕ))))))))
    (λ r. (
      r.first,
      (
        r.greatest,
        (
          r.received,
          (r.expected_before, (r.received_before, (r.transit, (r.jitter, (r.octets, r.rate))))),
        ),
      ),
    ))
    (λ p. record {
      first = p.0;
      greatest = p.1.0;
      received = p.1.1.0;
      expected_before = p.1.1.1.0;
      received_before = p.1.1.1.1.0;
      transit = p.1.1.1.1.1.0;
      jitter = p.1.1.1.1.1.1.0;
      octets = p.1.1.1.1.1.1.1.0;
      rate = p.1.1.1.1.1.1.1.1;
    })
    (λ _. refl)

abbrev pub last_report_code : Coded LastReportValue
last_report_code =
    code_by (ℕ × (ℕ × ℕ)) (coded× coded_ℕ (coded× coded_ℕ coded_ℕ)) (λ t. (t.ntp, (t.rtp, t.moment)))
    (λ p. record { ntp = p.0; rtp = p.1.0; moment = p.1.1 })
    (λ _. refl)

abbrev pub last_block_code : Coded LastBlockValue
last_block_code =
    code_by (ℕ × ℕ) (coded× coded_ℕ coded_ℕ) (λ b. (b.fraction, b.highest))
    (λ p. record { fraction = p.0; highest = p.1 })
    (λ _. refl)

abbrev pub source_code : Coded SourceValue
source_code =
    code_by (ℕ × (Option RunValue × (Option ℕ × (Option LastReportValue × Option LastBlockValue))))
    (coded× coded_ℕ (coded× (coded_option run_code) (coded× (coded_option coded_ℕ)
    (coded× (coded_option last_report_code) (coded_option last_block_code)))))
    (λ s. (s.packets, (s.run, (s.stray, (s.last_report, s.last_block)))))
    (λ p. record { packets = p.0; run = p.1.0; stray = p.1.1.0; last_report = p.1.1.1.0; last_block = p.1.1.1.1 })
    (λ _. refl)

abbrev pub entry_code : Coded EntryValue
entry_code =
    code_by (Bool × (Option ℕ × (ℕ × (Option ℕ × SourceValue))))
    (coded× coded_bool (coded× (coded_option coded_ℕ) (coded× coded_ℕ (coded× (coded_option coded_ℕ) source_code))))
    (λ e. (e.valid, (e.mark, (e.sighting, (e.sending, e.source)))))
    (λ p. record { valid = p.0; mark = p.1.0; sighting = p.1.1.0; sending = p.1.1.1.0; source = p.1.1.1.1 })
    (λ _. refl)

abbrev pub table_code : Coded TableValue
table_code =
    code_by (ℕ × EntryMap) (coded× coded_ℕ (map.code coded_ℕ entry_code)) (λ t. (t.capacity, t.entries))
    (λ p. record { capacity = p.0; entries = p.1 })
    (λ _. refl)
