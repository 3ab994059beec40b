-- The machine values of an `Owned`, and what it owns at its pointer. Assumes `Logic`.
--     owned_out, owned_in     an `Owned` by value is [what it owns at its pointer; its handle]
--     either_owned            nothing at null, else the box
use Rattle.std.proofs.Common.{◌≡◌, ℕ, List, [], ◌∷◌, ◌++◌, refl, subst}
use seplogic.Ra.Ura.{Ura}
use mir.Syntax.{impl, tnil, dnil}
use mir.Raw.{raw as bare}
use mir.Val.{Val, vstruct, of_list}
use base.Logic.{ent, guard, guard_i, via, snd∗, never_e}
use base.Fml.{ftrue}
use base.Fraction.{full_share}
use types.Logic.{Logic, sem}
use types.Kit.{Item, Goal, Seq, Step, step, ‵, given, ◌$◌, move, drop, fsplit, fjoin, fpick, fpack, feq_i, feq_l, use1, learn}
use contract.Monad.{fact_use}
use denote.RattleType.{RattleType, Valss}
use denote.Memory.{lone}
use denote.RawPtr.{Ptr, block_ptr, null_ptr, ptr_val, lies_at, Testable}
use denote.Steps.{nothing}
use denote.Param.{layout}
use denote.Struct.Struct.{within}
use denote.Struct.Owning.{shape, fields, to}
use Rattle.core.proofs.alloc.Calls.{Al, handle_tells}
use Rattle.core.proofs.cell.Inside.{Good}
use Rattle.std.specs.Prelude.{Option, Some, None}
use Rattle.std.specs.declared.alloc.Global.{Global}
use Rattle.std.specs.contracts.alloc.Global as heap
use Rattle.std.proofs.alloc.Global.TheLaws as heap_laws
use Rattle.std.specs.contracts.impls.GlobalAllocator.TheImpl.{ghosts}
use Rattle.std.proofs.GlobalToken.{dealloc_token-Testable}
use Rattle.jalwedd_host.specs.Owned.{Row, Value, boxed, owned}
use Rattle.jalwedd_host.specs.contracts.owned.Owned as host
use Rattle.jalwedd_host.proofs.Values.{both}

abbrev pub Z : RattleType
Z = heap.the_row

abbrev pub Host : RattleType
Host = host.the_row

abbrev al : Al
al = record { row = Z; laws = heap_laws.the_row_laws; g = ghosts; d = impl [] tnil dnil; drops = impl [] tnil dnil }

-- a box's pointer may be compared with null
tested : {M : Type 1} {𝓤 : Ura M} (𝓛 : Logic 𝓤) (a : Global) (p : Ptr) (x : Value) →
    ent 𝓤 (sem 𝓛 (boxed a p x)) (guard 𝓤 (Testable p) (sem 𝓛 (boxed a p x)))
tested {𝓤 = 𝓤} 𝓛 a p x = fact_use 𝓤 (Testable p)
    (via 𝓤 _ (snd∗ 𝓤 (sem 𝓛 (lies_at Row full_share p x)) (sem 𝓛 (ghosts.dealloc_token a (bare (lone Row.mir)) p)))
    (dealloc_token-Testable 𝓛 a (bare (lone Row.mir)) p)) (guard_i 𝓤 (Testable p) (sem 𝓛 (boxed a p x)))

module _ {M : Type 1} {𝓤 : Ura M} {𝓛 : Logic 𝓤} {K : Type 0} {Γ : List (Item 𝓤)} {G : Goal 𝓤 𝓛.H} where
  pub owned_out : K → (d : Host.Denot) (vs : List Val)
      → ((h : Val) → vs ≡ both (ptr_val d.at) h ∷ [] → Good (layout Z) h →
      Seq K 𝓛 (‵ (owned d.alloc d.at d.held) ∷ ‵ (Z.own_val d.alloc (h ∷ [])) ∷ Γ) G)
      → Seq K 𝓛 (‵ (Host.own_val d vs) ∷ Γ) G
  owned_out t d vs k =
      fsplit t $ fpick t (λ vss. fsplit t $ feq_l t
      (λ ev. fsplit t $ feq_l t (λ ep. fsplit t $ handle_tells al t d.alloc vss.1.0
      (λ h ea fits. move t (1 ∷ []) $ drop t $ move t (1 ∷ []) $ k h
      (subst (λ (ws : List Val). vs ≡ vstruct (of_list (ptr_val d.at ∷ (ws ++ []))) ∷ []) ea
      (subst (λ (ps : List Val). vs ≡ vstruct (of_list (ps ++ (vss.1.0 ++ []))) ∷ []) ep ev)) fits))))

  pub owned_in : K → (d : Host.Denot) (h : Val)
      → Step K 𝓛 (‵ (Host.own_val d (both (ptr_val d.at) h ∷ [])) ∷ Γ) G
      (‵ (owned d.alloc d.at d.held) ∷ ‵ (Z.own_val d.alloc (h ∷ [])) ∷ Γ) G
  owned_in t d h = step (λ s. let v : Val = both (ptr_val d.at) h in
      nothing t $ move t (2 ∷ 0 ∷ []) $ fjoin t $ feq_i t (List Val) (ptr_val d.at ∷ []) (ptr_val d.at ∷ []) refl
      $ fjoin t $ feq_i t (List Val) (v ∷ []) (v ∷ []) refl $ fjoin t $
      fpack t (Valss (fields host.the_type)) (within (shape host.the_type) (to host.the_type d) (v ∷ []))
      (ptr_val d.at ∷ [], (h ∷ [], tt)) $ fjoin t $ s)

  pub either_owned : K → (a : Global) (p : Ptr) (held : Option Value)
      → (p ≡ null_ptr → held ≡ None → Seq K 𝓛 Γ G)
      → ((b o : ℕ) (x : Value) → p ≡ block_ptr b o → held ≡ Some x → Testable (block_ptr b o) →
      Seq K 𝓛 (‵ (boxed a (block_ptr b o) x) ∷ Γ) G)
      → Seq K 𝓛 (‵ (owned a p held) ∷ Γ) G
  either_owned t a null_ptr None none one = drop t $ none refl refl
  either_owned t a null_ptr (Some x) none one = use1 𝓛 (given ⊥ (‵ ftrue)) (never_e 𝓤 _) $ learn t (λ e. absurd e)
  either_owned t a (block_ptr b o) None none one = use1 𝓛 (given ⊥ (‵ ftrue)) (never_e 𝓤 _) $ learn t (λ e. absurd e)
  either_owned t a (block_ptr b o) (Some x) none one =
      use1 𝓛 (given (Testable (block_ptr b o)) (‵ (boxed a (block_ptr b o) x))) (tested 𝓛 a (block_ptr b o) x) $ learn t
      (λ e. one b o x refl refl e)
