use Rattle.std.proofs.Common.{◌≡◌, ◌++◌, ℕ, List, OnOk, subst, sym, ap, ◌∙◌}
use Rattle.std.specs.List.{flat_map}
use Rattle.rtcp_engine.specs.answers.Setups.{Setup}
use Rattle.rtcp_engine.specs.state.Views.{setup_of}
use Rattle.rtcp_report.specs.Reports.{item_value}
use Rattle.rtcp_command.specs.ReplayCommand.{item_text, name_text, sizes_text, bandwidths_text, clocks_text}
use Rattle.rtcp_command.proofs.ReplayCommandLemmas.{five, flat_map-map}
use Rattle.rtcp_command.proofs.replay_command.push_setup.Goals as goal

pub returns : goal.returns
returns c =
    let s : Setup = setup_of c.args.config.now in
    subst (λ (items : List ℕ). OnOk c.push_items.result (c.push_items.new.out.items
    ≡ c.args.out.now.items ++ (name_text s ++ sizes_text s ++ bandwidths_text s ++ clocks_text s ++ items)))
    (ap (flat_map (λ item. item_text (item_value item))) c.deref.ensures.0
    ∙ sym (flat_map-map item_value item_text c.args.config.now.extras.items))
    (five _ _ (name_text s) (sizes_text s) (bandwidths_text s) (clocks_text s)
    (flat_map (λ item. item_text (item_value item)) c.deref.result.now) _ _ _ _ _
    c.in_ok-push_name.ensures c.in_ok-push_sizes.ensures c.in_ok-push_bandwidths.ensures c.in_ok-push_clocks.ensures
    c.push_items.ensures)
