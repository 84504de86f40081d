-- What a state and an error mean in the paper's words: "a definition gives this paper's number and values for each of its cases".
use Rattle.std.specs.Prelude.{◌≡◌, refl, true, false, ℕ, eqb}
use Rattle.rules.specs.Writer.{State as Said}
use Rattle.judge.specs.declared.State.{State}
use Rattle.judge.specs.declared.Error.{Error}
use Rattle.judge.specs.declared.Error.TheVariants.{PropertyBeforeBeginNode, PropertyAfterEndNode, PropertyValueTooLarge, TotalSizeTooLarge, InvalidString, OutOfOrderEndNode, UnclosedNode, InvalidMemoryReservation, OverlappingMemoryReservations, InvalidNodeName, InvalidPropertyName, NodeDepthTooLarge, DuplicatePhandle, NoRoom, ImpossibleState}

abbrev pub state_of : State → Said
state_of w =
    record {
      data_length = w.data_len;
      structure = w.off_dt_struct;
      strings_length = w.strings_len;
      phandle_count = w.phandles_len;
      depth = w.node_depth;
      ended = w.node_ended;
      finished = w.finished;
      boot_cpu = w.boot_cpuid_phys;
    }

-- "Numbers 20 to 32 are the thirteen names of `Error` in source order"; "33 is ours", "34 is ours"
abbrev pub number_of : Error → ℕ
number_of PropertyBeforeBeginNode = 20
number_of PropertyAfterEndNode = 21
number_of PropertyValueTooLarge = 22
number_of TotalSizeTooLarge = 23
number_of InvalidString = 24
number_of OutOfOrderEndNode = 25
number_of UnclosedNode = 26
number_of InvalidMemoryReservation = 27
number_of OverlappingMemoryReservations = 28
number_of InvalidNodeName = 29
number_of InvalidPropertyName = 30
number_of NodeDepthTooLarge = 31
number_of DuplicatePhandle = 32
number_of NoRoom = 33
number_of ImpossibleState = 34

-- ---- no two errors have one number

pub error_of : ℕ → Error
error_of n = elim (eqb n 20) [
  | true ↦ PropertyBeforeBeginNode
  | false ↦ elim (eqb n 21) [
    | true ↦ PropertyAfterEndNode
    | false ↦ elim (eqb n 22) [
      | true ↦ PropertyValueTooLarge
      | false ↦ elim (eqb n 23) [
        | true ↦ TotalSizeTooLarge
        | false ↦ elim (eqb n 24) [
          | true ↦ InvalidString
          | false ↦ elim (eqb n 25) [
            | true ↦ OutOfOrderEndNode
            | false ↦ elim (eqb n 26) [
              | true ↦ UnclosedNode
              | false ↦ elim (eqb n 27) [
                | true ↦ InvalidMemoryReservation
                | false ↦ elim (eqb n 28) [
                  | true ↦ OverlappingMemoryReservations
                  | false ↦ elim (eqb n 29) [
                    | true ↦ InvalidNodeName
                    | false ↦ elim (eqb n 30) [
                      | true ↦ InvalidPropertyName
                      | false ↦ elim (eqb n 31) [
                        | true ↦ NodeDepthTooLarge
                        | false ↦ elim (eqb n 32) [
                          | true ↦ DuplicatePhandle
                          | false ↦ elim (eqb n 33) [ true ↦ NoRoom | false ↦ ImpossibleState ]
                        ]
                      ]
                    ]
                  ]
                ]
              ]
            ]
          ]
        ]
      ]
    ]
  ]
]

pub error_of_lem : (e : Error) → error_of (number_of e) ≡ e
unfolding error_of
error_of_lem PropertyBeforeBeginNode = refl
error_of_lem PropertyAfterEndNode = refl
error_of_lem PropertyValueTooLarge = refl
error_of_lem TotalSizeTooLarge = refl
error_of_lem InvalidString = refl
error_of_lem OutOfOrderEndNode = refl
error_of_lem UnclosedNode = refl
error_of_lem InvalidMemoryReservation = refl
error_of_lem OverlappingMemoryReservations = refl
error_of_lem InvalidNodeName = refl
error_of_lem InvalidPropertyName = refl
error_of_lem NodeDepthTooLarge = refl
error_of_lem DuplicatePhandle = refl
error_of_lem NoRoom = refl
error_of_lem ImpossibleState = refl
