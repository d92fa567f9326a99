mod DiskSaves
