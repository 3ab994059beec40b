-- A setup is usable exactly where it is not refused.
use Rattle.std.proofs.Common.{◌≡◌, ℕ, ◌^◌, ◌%◌, ◌==◌, ◌&&◌, Bool, true, false, not, length, Option, Some, None, if◌then◌else◌, nat_le, refl, sym, ◌∙◌}
use Rattle.std.specs.List.{list_all}
use Rattle.std.specs.Cmp.Derive.{both_true}
use Rattle.std.proofs.lemmas.Bool.{leb-true, le-leb, eqb-true, eq-eqb, and_parts, false≢true}
use Rattle.std.proofs.lemmas.List.Elements.{All-weaker}
use Rattle.std.proofs.lemmas.List.Sums.{AllPass-from_list_all, list_all-from_AllPass}
use Rattle.rtcp_wire.specs.Values.{ItemValue}
use Rattle.rtcp_engine.specs.declared.config.ConfigError.{ConfigError}
use Rattle.rtcp_engine.specs.declared.config.ConfigError.TheVariants.{Cname, Capacity, Limit, Bandwidth, Rate, Item}
use Rattle.rtcp_engine.specs.answers.Setups.{Setup, SettingsValue, is_within, IsWithin, is_extra_item, IsExtraItem, IsUsable, with_settings, ClockValue, is_clock, IsClock, are_extras, is_bandwidth, settings_error}
use Rattle.rtcp_engine.specs.answers.Refused.{is_limit, error_in}

-- a test that was passed
passed : (test : Bool) (error : ConfigError) (others : Option ConfigError) →
    (if not test then Some error else others) ≡ None → (test ≡ true) × (others ≡ None)
passed true error others h = (refl, h)
passed false error others h = absurd cc

within : (least most number : ℕ) → is_within least most number ≡ true → IsWithin least most number
within least most number h =
    let parts = and_parts (nat_le least number) (nat_le number most) h in
    (leb-true least number parts.0, leb-true number most parts.1)

extra : (item : ItemValue) → is_extra_item item ≡ true → IsExtraItem item
extra item h =
    let parts = and_parts (is_within 2 8 item.kind) (nat_le (length item.text) 255) h in
    (within 2 8 item.kind parts.0, leb-true (length item.text) 255 parts.1)

pub usable_of_unrefused : (setup : Setup) → error_in setup ≡ None → IsUsable setup
usable_of_unrefused setup h =
    let cname = passed (is_within 1 255 (length setup.cname)) Cname _ h in
    let capacity = passed (is_within 1 1024 setup.capacity) Capacity _ cname.1 in
    let limit = passed (is_limit setup.limit) Limit _ capacity.1 in
    let bandwidth = passed (is_bandwidth setup.settings.sender_bw && is_bandwidth setup.settings.receiver_bw) Bandwidth
    _ limit.1 in
    let clocks = passed (is_within 1 (2 ^ 20) setup.settings.rate && list_all is_clock setup.settings.clocks) Rate _
    bandwidth.1 in
    let extras = passed (are_extras setup.settings.extras) Item _ clocks.1 in
    let rates = and_parts (is_within 1 (2 ^ 20) setup.settings.rate) (list_all is_clock setup.settings.clocks)
    clocks.0 in
    let bandwidths = and_parts (is_bandwidth setup.settings.sender_bw) (is_bandwidth setup.settings.receiver_bw)
    bandwidth.0 in
    let limits = and_parts (is_within 576 1472 setup.limit) (setup.limit % 4 == 0) limit.0 in
    let items = and_parts (nat_le (length setup.settings.extras) 7) (list_all is_extra_item setup.settings.extras)
    extras.0 in
    record {
      cname = within 1 255 (length setup.cname) cname.0;
      capacity = within 1 1024 setup.capacity capacity.0;
      limit = within 576 1472 setup.limit limits.0;
      words = eqb-true (setup.limit % 4) 0 limits.1;
      for_senders = within 16 (2 ^ 30) setup.settings.sender_bw bandwidths.0;
      for_others = within 16 (2 ^ 30) setup.settings.receiver_bw bandwidths.1;
      rate = within 1 (2 ^ 20) setup.settings.rate rates.0;
      clocks = All-weaker (λ (clock : ClockValue). is_clock clock ≡ true) IsClock
          (λ (clock : ClockValue). within 1 (2 ^ 20) clock.rate) setup.settings.clocks
          (AllPass-from_list_all is_clock setup.settings.clocks rates.1);
      few_extras = leb-true (length setup.settings.extras) 7 items.0;
      extras = All-weaker (λ (item : ItemValue). is_extra_item item ≡ true) IsExtraItem extra setup.settings.extras
          (AllPass-from_list_all is_extra_item setup.settings.extras items.1);
    }

-- ---- And the other way round

passes : (test : Bool) (error : ConfigError) (others : Option ConfigError) → test ≡ true → others ≡ None →
    (if not test then Some error else others) ≡ None
passes true error others is none = none
passes false error others is none = absurd (false≢true is)

is_within_of : (least most number : ℕ) → IsWithin least most number → is_within least most number ≡ true
is_within_of least most number h = both_true (le-leb least number h.0) (le-leb number most h.1)

is_extra_of : (item : ItemValue) → IsExtraItem item → is_extra_item item ≡ true
is_extra_of item h = both_true (is_within_of 2 8 item.kind h.0) (le-leb (length item.text) 255 h.1)

clocks_pass : (setup : Setup) → IsUsable setup →
    (is_within 1 (2 ^ 20) setup.settings.rate && list_all is_clock setup.settings.clocks)
    ≡ true
clocks_pass setup h =
    both_true (is_within_of 1 (2 ^ 20) setup.settings.rate h.rate) (list_all-from_AllPass is_clock setup.settings.clocks
    (All-weaker IsClock (λ (clock : ClockValue). is_clock clock ≡ true)
    (λ (clock : ClockValue). is_within_of 1 (2 ^ 20) clock.rate) setup.settings.clocks h.clocks))

pub unrefused_of_usable : (setup : Setup) → IsUsable setup → error_in setup ≡ None
unrefused_of_usable setup h =
    passes (is_within 1 255 (length setup.cname)) Cname _ (is_within_of 1 255 (length setup.cname) h.cname)
    (passes (is_within 1 1024 setup.capacity) Capacity _ (is_within_of 1 1024 setup.capacity h.capacity)
    (passes (is_limit setup.limit) Limit _
    (both_true (is_within_of 576 1472 setup.limit h.limit) (eq-eqb (setup.limit % 4) 0 h.words))
    (passes (is_bandwidth setup.settings.sender_bw && is_bandwidth setup.settings.receiver_bw) Bandwidth _
    (both_true (is_within_of 16 (2 ^ 30) setup.settings.sender_bw h.for_senders)
    (is_within_of 16 (2 ^ 30) setup.settings.receiver_bw h.for_others))
    (passes (is_within 1 (2 ^ 20) setup.settings.rate && list_all is_clock setup.settings.clocks) Rate _
    (clocks_pass setup h)
    (passes (are_extras setup.settings.extras) Item None
    (both_true (le-leb (length setup.settings.extras) 7 h.few_extras)
    (list_all-from_AllPass is_extra_item setup.settings.extras
    (All-weaker IsExtraItem (λ (item : ItemValue). is_extra_item item ≡ true) is_extra_of setup.settings.extras
    h.extras)))
    refl)))))

-- ---- Settings

passed_by : (test : Bool) (error : ConfigError) (others : Option ConfigError) → test ≡ true →
    (if not test then Some error else others) ≡ others
passed_by true error others is = refl
passed_by false error others is = absurd (false≢true is)

-- Settings are refused as a setup with them is.
pub settings_refused : (settings : SettingsValue) (setup : Setup) → IsUsable setup →
    settings_error settings ≡ error_in (with_settings settings setup)
settings_refused settings setup h =
    sym (passed_by (is_within 1 255 (length setup.cname)) Cname _ (is_within_of 1 255 (length setup.cname) h.cname)
    ∙ passed_by (is_within 1 1024 setup.capacity) Capacity _ (is_within_of 1 1024 setup.capacity h.capacity)
    ∙ passed_by (is_limit setup.limit) Limit _
    (both_true (is_within_of 576 1472 setup.limit h.limit) (eq-eqb (setup.limit % 4) 0 h.words)))

pub usable_with_settings : (settings : SettingsValue) (setup : Setup) → IsUsable setup →
    settings_error settings ≡ None → IsUsable (with_settings settings setup)
usable_with_settings settings setup h none =
    usable_of_unrefused (with_settings settings setup) (sym (settings_refused settings setup h) ∙ none)
