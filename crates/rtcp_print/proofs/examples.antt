mod RoomRows
